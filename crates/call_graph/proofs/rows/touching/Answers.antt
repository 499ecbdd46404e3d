use Rattle.std.proofs.Common.{ap, ◌∙◌}
use Rattle.call_graph.specs.Rows.{for_each, is_marked_or_calls}
use Rattle.call_graph.proofs.RowSteps.{touching_none, touching_step}
use Rattle.call_graph.proofs.rows.touching.Goals as goal

pub loop-init : goal.loop-init
loop-init c = c.in_ok-row.ensures ∙ touching_none c.args.graph.now c.args.marked.now

pub loop-preserved : goal.loop-preserved
loop-preserved c =
    touching_step c.args.graph.now c.args.marked.now c.loop.counter c.loop.row.items c.in_ok-row-2.row.items
    c.loop.invariant
    (c.in_ok-row-2.ensures ∙ ap (λ row. for_each c.args.graph.now (is_marked_or_calls c.args.graph.now row c.args.marked.now)) c.deref.ensures.value)
