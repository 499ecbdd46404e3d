use Rattle.std.proofs.Common.{ap, sym, ◌∙◌, slice_get}
use Rattle.asm_node.specs.Model.{machine_of}
use Rattle.ref_link.specs.Linkable.{is_input_or_reads}
use Rattle.ref_link.specs.Rows.{is_in}
use Rattle.ref_link.proofs.Reading.{grown, item_at}
use Rattle.ref_link.proofs.reads.reading.Goals as goal

pub loop-number-preserved : goal.loop-number-preserved
loop-number-preserved c =
    let m = machine_of c.args.model.now in
    let same = c.slice-function-items.ensures ∙ c.functions.ensures.value ∙ ap (λ s. s.functions) c.signature.ensures in
    let is = item_at c.slice-function-items.result.now m.signature.functions c.loop-number.number c.function-item.result same c.loop-number-test.true c.function-item.is in
    grown (λ f. is_input_or_reads m (is_in c.args.row.now) f (slice_get m.signature.functions f)) c.loop-number.number c.loop-number.next.items c.push.new.self.items c.is_input_or_reads.result
    c.loop-number.invariant
    c.in_ok-push.ensures.items
    (c.is_input_or_reads.ensures ∙ ap (is_input_or_reads m (is_in c.args.row.now) c.loop-number.number) (sym is))
