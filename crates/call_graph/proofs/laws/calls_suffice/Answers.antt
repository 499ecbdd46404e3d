use Rattle.call_graph.proofs.Shorter.{same_touched, no_cycle}
use Rattle.call_graph.proofs.laws.calls_suffice.Goals as goal

pub returns-clause-same : goal.returns-clause-same
returns-clause-same c = same_touched _ _ _

pub returns-clause-no_cycle : goal.returns-clause-no_cycle
returns-clause-no_cycle c = no_cycle _ _
