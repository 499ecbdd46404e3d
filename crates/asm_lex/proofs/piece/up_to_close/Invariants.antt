use Rattle.std.proofs.Common.{◌≡◌, drop}
use Rattle.asm_lex.specs.Cut.{up_to_close}
use Rattle.asm_lex.proofs.Words.{shifted}
use Rattle.asm_lex.proofs.piece.up_to_close.Given as goal

abbrev pub invariant-bytes : goal.invariant-bytes
invariant-bytes l = up_to_close l.bytes ≡ shifted l.index (up_to_close (drop l.index l.bytes))
