-- What calls something is there, and what is there has a number below the end.
use Rattle.std.proofs.Common.{◌≡◌, ℕ, ◌<◌, ◌≤◌, List, [], length, get_or, true, false, cond, inl, inr, refl, ap}
use Rattle.std.proofs.lemmas.List.{get_or_past}
use Rattle.std.proofs.lemmas.Bool.{cases_lt}
use Rattle.call_graph.specs.declared.graph.Node.{Node}
use Rattle.call_graph.specs.Calls.{no_node, calls_at, is_there}
use Rattle.call_graph.proofs.Found.{In, not_both}

pub calls_there : (g : List Node) (n c : ℕ) → In (calls_at g n) c → is_there g n ≡ true
calls_there g n c h =
    elim (is_there g n) as (λ b. In (cond b (get_or g n no_node).calls []) c → b ≡ true) [
      | true ↦ λ _. refl
      | false ↦ λ none. absurd none
    ] h

pub there_below : (g : List Node) (n : ℕ) → is_there g n ≡ true → n < length g
there_below g n h =
    elim (cases_lt n (length g)) [
      | inl lt ↦ lt
      | inr le ↦ absurd (not_both (is_there g n) (ap (λ (x : Node). x.there) (get_or_past g n no_node le)) h)
    ]

pub calls_below : (g : List Node) (n c : ℕ) → In (calls_at g n) c → n < length g
calls_below g n c h = there_below g n (calls_there g n c h)

pub no_calls : (g : List Node) (n : ℕ) → length g ≤ n → calls_at g n ≡ []
no_calls g n le = ap (λ (x : Node). cond x.there x.calls []) (get_or_past g n no_node le)
