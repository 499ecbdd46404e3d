use Rattle.std.proofs.Common.{◌≡◌, map}
use Rattle.std.specs.List.{range_with_len}
use Rattle.call_graph.specs.Calls.{is_there}
use Rattle.call_graph.proofs.rows.there.Given as goal

abbrev pub invariant-loop-node : goal.invariant-loop-node
invariant-loop-node l = l.row.items ≡ map (is_there l.graph) (range_with_len 0 l.node-index)
