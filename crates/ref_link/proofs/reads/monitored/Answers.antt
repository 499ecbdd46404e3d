use Rattle.std.proofs.Common.{ap, sym, ◌∙◌}
use Rattle.asm_node.specs.Machine.{has_kind, is_monitored}
use Rattle.asm_node.specs.Model.{machine_of}
use Rattle.ref_link.specs.Linkable.{reads_input}
use Rattle.ref_link.proofs.Reading.{grown, item_at, first_row}
use Rattle.ref_link.proofs.reads.monitored.Goals as goal

pub loop-function-preserved : goal.loop-function-preserved
loop-function-preserved c =
    let m = machine_of c.args.model.now in
    let same = c.slice-function-items.ensures ∙ c.functions.ensures.value ∙ ap (λ s. s.functions) c.signature.ensures in
    grown (reads_input m 0) c.loop-function.function-index c.loop-function.row.items c.push.new.self.items c.is_monitored.result
    c.loop-function.invariant
    c.in_ok-push.ensures.items
    (c.is_monitored.ensures ∙ ap (has_kind is_monitored) (sym (item_at c.slice-function-items.result.now m.signature.functions c.loop-function.function-index c.function-item.result same c.loop-function-test.true c.function-item.is)) ∙ first_row m c.loop-function.function-index)
