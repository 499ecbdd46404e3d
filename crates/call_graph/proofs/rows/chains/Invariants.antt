use Rattle.std.proofs.Common.{◌≡◌}
use Rattle.call_graph.specs.Calls.{has_chain}
use Rattle.call_graph.specs.Rows.{for_each}
use Rattle.call_graph.proofs.rows.chains.Given as goal

abbrev pub invariant-loop : goal.invariant-loop
invariant-loop l = l.row.items ≡ for_each l.graph (has_chain l.graph l.counter)
