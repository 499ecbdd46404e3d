-- Who calls whom. A node is named by its place in the list; a number past the end names a node that isn't there.
use Rattle.std.specs.Prelude.{◌≡◌, ℕ, zero, suc, ◌<◌, Bool, true, false, ◌||◌, nat_eq, if◌then◌else◌, List, [], length, slice_index_or}
use Rattle.std.specs.List.{list_any}
use Rattle.call_graph.specs.declared.graph.Node.{Node}

abbrev pub no_node : Node
no_node = record { there = false; calls = [] }

-- a node that isn't there calls nothing
abbrev pub calls_of : Node → List ℕ
calls_of node = if node.there then node.calls else []

abbrev pub is_there : List Node → ℕ → Bool
is_there g n = (slice_index_or g n no_node).there

abbrev pub calls_at : List Node → ℕ → List ℕ
calls_at g n = calls_of (slice_index_or g n no_node)

-- whether a list of truth values has `true` at a number
abbrev pub is_in : List Bool → ℕ → Bool
is_in row n = slice_index_or row n false

-- k nodes that are there, the first of which is f, each calling the next
unfoldable pub has_chain : List Node → ℕ → ℕ → Bool
has_chain g zero f = true
has_chain g (suc zero) f = is_there g f
has_chain g (suc (suc k)) f = list_any (has_chain g (suc k)) (calls_at g f)

-- f calls h, or calls a node that calls h, and so on, with at least one and at most k calls
unfoldable pub leads : List Node → ℕ → ℕ → ℕ → Bool
leads g zero f h = false
leads g (suc k) f h = list_any (λ c. nat_eq c h || leads g k c h) (calls_at g f)

-- f is marked, or leads to one that is by at most k calls
unfoldable pub touches : List Node → List Bool → ℕ → ℕ → Bool
touches g marked zero f = is_in marked f
touches g marked (suc k) f = is_in marked f || list_any (touches g marked k) (calls_at g f)

-- no node begins a chain of k nodes
abbrev pub HasNoChain : List Node → ℕ → Type 0
HasNoChain g k = (n : ℕ) → n < length g → has_chain g k n ≡ false
