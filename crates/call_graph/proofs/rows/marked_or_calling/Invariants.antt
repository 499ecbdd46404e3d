use Rattle.std.proofs.Common.{◌≡◌, map}
use Rattle.std.specs.List.{range_with_len}
use Rattle.call_graph.specs.Rows.{is_marked_or_calls}
use Rattle.call_graph.proofs.rows.marked_or_calling.Given as goal

abbrev pub invariant-loop-number : goal.invariant-loop-number
invariant-loop-number l = l.next.items ≡ map (is_marked_or_calls l.graph l.row l.marked) (range_with_len 0 l.number)
