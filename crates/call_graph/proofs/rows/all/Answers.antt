use Rattle.std.proofs.Common.{true, refl}
use Rattle.call_graph.proofs.RowSteps.{grown}
use Rattle.call_graph.proofs.rows.all.Goals as goal

pub loop-preserved : goal.loop-preserved
loop-preserved c =
    grown (λ n. true) c.loop.counter c.loop.row.items c.push.new.self.items true c.loop.invariant c.in_ok-push.ensures.items refl
