use Rattle.std.proofs.Common.{◌∙◌, sym, ap}
use Rattle.asm_lex.specs.Cut.{begins_close}
use Rattle.asm_lex.proofs.Words.{closes_later, slice_to_end}
use Rattle.asm_lex.proofs.piece.up_to_close.Goals as goal

pub bytes-preserved : goal.bytes-preserved
bytes-preserved c =
    let bs = c.args.bytes.now in
    let i = c.bytes.index in
    c.bytes.invariant ∙ closes_later bs i c.bytes-test.true (ap begins_close (sym (slice_to_end i bs)) ∙ sym c.begins_close.ensures ∙ c.if-begins_close.false)
