use Rattle.std.proofs.Common.{◌+◌, length}
use Rattle.call_graph.proofs.Walks.{IsWalk, unread}
use Rattle.call_graph.proofs.cycle.leads_to_itself.Given as goal

abbrev pub invariant-loop-next : goal.invariant-loop-next
invariant-loop-next l = IsWalk l.graph l.node l.visited.items l.ahead.items

abbrev pub decreases-loop-next : goal.decreases-loop-next
decreases-loop-next l = unread l.graph l.visited.items + length l.ahead.items
