use Rattle.std.proofs.Common.{◌≡◌, ◌+◌, drop}
use Rattle.asm_lex.specs.Cut.{goes_on, run_of}
use Rattle.asm_lex.proofs.piece.run_length.Given as goal

abbrev pub invariant-bytes : goal.invariant-bytes
invariant-bytes l = run_of (goes_on l.run) l.bytes ≡ l.index + run_of (goes_on l.run) (drop l.index l.bytes)
