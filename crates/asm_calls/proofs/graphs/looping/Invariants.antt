use Rattle.std.proofs.Common.{◌≡◌, ℕ, ◌≤◌, map, length}
use Rattle.std.specs.List.{range_with_len}
use Rattle.call_graph.specs.Calls.{leads}
use Rattle.asm_calls.proofs.graphs.looping.Given as goal

abbrev pub invariant-nodes : goal.invariant-nodes
invariant-nodes l = (far : ℕ) → length l.graph ≤ far → l.row ≡ map (λ n. leads l.graph far n n) (range_with_len 0 l.number)
