use Rattle.call_graph.specs.Calls.{is_in}
use Rattle.call_graph.proofs.RowSteps.{grown}
use Rattle.call_graph.proofs.rows.marks.Goals as goal

pub loop-number-preserved : goal.loop-number-preserved
loop-number-preserved c =
    grown (is_in c.args.marked.now) c.loop-number.number c.loop-number.row.items c.push.new.self.items c.is_in.result c.loop-number.invariant c.in_ok-push.ensures.items c.is_in.ensures
