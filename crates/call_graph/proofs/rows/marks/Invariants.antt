use Rattle.std.proofs.Common.{◌≡◌, map}
use Rattle.std.specs.List.{range_with_len}
use Rattle.call_graph.specs.Calls.{is_in}
use Rattle.call_graph.proofs.rows.marks.Given as goal

abbrev pub invariant-loop-number : goal.invariant-loop-number
invariant-loop-number l = l.row.items ≡ map (is_in l.marked) (range_with_len 0 l.number)
