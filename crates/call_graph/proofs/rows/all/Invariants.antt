use Rattle.std.proofs.Common.{◌≡◌, map, true}
use Rattle.std.specs.List.{range_with_len}
use Rattle.call_graph.proofs.rows.all.Given as goal

abbrev pub invariant-loop : goal.invariant-loop
invariant-loop l = l.row.items ≡ map (λ n. true) (range_with_len 0 l.counter)
