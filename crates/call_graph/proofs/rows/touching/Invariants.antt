use Rattle.std.proofs.Common.{◌≡◌}
use Rattle.call_graph.specs.Calls.{touches}
use Rattle.call_graph.specs.Rows.{for_each}
use Rattle.call_graph.proofs.rows.touching.Given as goal

abbrev pub invariant-loop : goal.invariant-loop
invariant-loop l = l.row.items ≡ for_each l.graph (touches l.graph l.marked l.counter)
