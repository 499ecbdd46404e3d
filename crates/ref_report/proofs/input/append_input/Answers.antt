use Rattle.std.proofs.Common.{◌≡◌, ◌++◌, length, subst, arith}
use Rattle.asm_sign.specs.Vocabulary.{locations}
use Rattle.ref_report.specs.Texts.{given_line, input_line}
use Rattle.ref_report.proofs.Rest.{number_more}
use Rattle.ref_report.proofs.input.append_input.Goals as goal

pub slots-preserved : goal.slots-preserved
slots-preserved c =
    let all = c.slots-slot-end.ensures.value in
    number_more (input_line c.args.signature.now c.args.input.now) c.slots.slot (length (locations c.args.signature.now)) c.slots.text c.append_given.new.text _
    (omega (arith, all)) c.slots.invariant
    (subst (λ o. c.append_given.new.text ≡ c.slots.text ++ given_line c.args.signature.now c.slots.slot o) c.get.ensures c.in_ok-append_given.ensures)
