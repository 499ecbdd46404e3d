use Rattle.std.proofs.Common.{ap, ◌∙◌, slice_get}
use Rattle.asm_node.specs.Model.{machine_of}
use Rattle.ref_link.specs.Linkable.{is_input_or_reads}
use Rattle.ref_link.specs.Rows.{for_each, is_in}
use Rattle.ref_link.proofs.Reading.{one_more}
use Rattle.ref_link.proofs.reads.reading_input.Goals as goal

pub loop-preserved : goal.loop-preserved
loop-preserved c =
    let m = machine_of c.args.model.now in
    one_more m c.loop.counter c.loop.row.items c.in_ok-row-2.row.items
    c.loop.invariant
    (c.in_ok-row-2.ensures ∙ ap (λ row. for_each m (λ f. is_input_or_reads m (is_in row) f (slice_get m.signature.functions f))) c.deref.ensures.value)
