-- Truth values for all nodes of a graph, one a node.
use Rattle.std.specs.Prelude.{ℕ, Bool, ◌||◌, List, length, map}
use Rattle.std.specs.List.{list_any, range_with_len}
use Rattle.call_graph.specs.declared.graph.Node.{Node}
use Rattle.call_graph.specs.Calls.{calls_at, is_in}

-- whether the test holds, for each node in turn
abbrev pub for_each : List Node → (ℕ → Bool) → List Bool
for_each g test = map test (range_with_len 0 (length g))

-- whether a node calls one that is in one of two rows
abbrev pub calls_into : List Bool → List Bool → List ℕ → Bool
calls_into row marked calls = list_any (λ c. is_in row c || is_in marked c) calls

-- whether a node is marked, or calls one that is marked or in the row
abbrev pub is_marked_or_calls : List Node → List Bool → List Bool → ℕ → Bool
is_marked_or_calls g row marked n = is_in marked n || calls_into row marked (calls_at g n)
