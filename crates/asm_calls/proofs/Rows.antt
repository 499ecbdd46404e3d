-- Rows of truth values for the nodes of a graph.
use Rattle.std.proofs.Common.{◌≡◌, ℕ, ◌≤◌, Bool, false, List, length, inl, inr, sym, ◌∙◌, arith}
use Rattle.std.proofs.lemmas.Bool.{cases_lt}
use Rattle.std.proofs.lemmas.List.{get_or_past}
use Rattle.std.proofs.lemmas.List.FromFn.{get_or-map-range_with_len, length-map-range_with_len}
use Rattle.call_graph.specs.declared.graph.Node.{Node}
use Rattle.call_graph.specs.Calls.{is_in}
use Rattle.call_graph.specs.Rows.{for_each}

-- a row has at each number what the test gives, where that is nothing past the end
pub in_row_of : (g : List Node) (test : ℕ → Bool) → ((n : ℕ) → length g ≤ n → test n ≡ false) → (n : ℕ) → is_in (for_each g test) n ≡ test n
in_row_of g test past n =
    elim (cases_lt n (length g)) [
      | inl lt ↦ get_or-map-range_with_len test 0 (length g) n n false lt (omega arith)
      | inr le ↦ (let e = length-map-range_with_len test 0 (length g) in get_or_past (for_each g test) n false (omega arith)) ∙ sym (past n le)
    ]
