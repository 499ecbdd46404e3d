-- A row made from the row before says what one more call allows.
use Rattle.std.proofs.Common.{◌≡◌, ℕ, zero, suc, ◌+◌, ◌<◌, ◌≤◌, List, [], ◌∷◌, ◌++◌, length, map, Bool, true, false, ◌||◌, inl, inr, refl, ap, sym, ◌∙◌, arith, add-one}
use Rattle.std.specs.List.{list_any, range_with_len}
use Rattle.std.proofs.lemmas.List.{get_or_past}
use Rattle.std.proofs.lemmas.List.FromFn.{get_or-map-range_with_len, length-map-range_with_len, map-range_with_len_more}
use Rattle.std.proofs.lemmas.Bool.{cases_lt}
use Rattle.call_graph.specs.declared.graph.Node.{Node}
use Rattle.call_graph.specs.Calls.{calls_at, is_there, is_in, has_chain, touches}
use Rattle.call_graph.specs.Rows.{for_each, is_marked_or_calls}
use Rattle.call_graph.proofs.Found.{or_true, or_false, or_left, is_false}
use Rattle.call_graph.proofs.Nodes.{there_below, no_calls}

row_at : (g : List Node) (p : ℕ → Bool) (n : ℕ) → n < length g → is_in (for_each g p) n ≡ p n
row_at g p n lt = get_or-map-range_with_len p 0 (length g) n n false lt (omega arith)

row_past : (g : List Node) (p : ℕ → Bool) (n : ℕ) → length g ≤ n → is_in (for_each g p) n ≡ false
row_past g p n le =
    let e = length-map-range_with_len p 0 (length g) in
    get_or_past (for_each g p) n false (omega arith)

-- a row with one more truth value at its end
pub grown : (p : ℕ → Bool) (n : ℕ) (row next : List Bool) (b : Bool) → row ≡ map p (range_with_len 0 n) → next ≡ row ++ b ∷ [] → b ≡ p n → next ≡ map p (range_with_len 0 (n + 1))
grown p n row next b r e s =
    e ∙ ap (λ xs. xs ++ b ∷ []) r
    ∙ ap (λ x. map p (range_with_len 0 n) ++ x ∷ []) s
    ∙ sym (map-range_with_len_more p 0 n n (omega arith))

any_same : (p q : ℕ → Bool) → ((c : ℕ) → p c ≡ q c) → (xs : List ℕ) → list_any p xs ≡ list_any q xs
any_same p q h xs = λ i. list_any (λ c. h c i) xs

-- ---- chains

chain_first : (g : List Node) → has_chain g 0 ≡ (λ n. true)
unfolding has_chain
chain_first g = refl

chain_one : (g : List Node) → has_chain g 1 ≡ is_there g
unfolding has_chain
chain_one g = refl

chain_next : (g : List Node) (k n : ℕ) → 0 < k → has_chain g (suc k) n ≡ list_any (has_chain g k) (calls_at g n)
unfolding has_chain
chain_next g zero n h = absurd (omega arith)
chain_next g (suc k) n h = refl

chain_past : (g : List Node) (k n : ℕ) → 0 < k → length g ≤ n → has_chain g k n ≡ false
unfolding has_chain
chain_past g zero n h le = absurd (omega arith)
chain_past g (suc zero) n h le = is_false (is_there g n) (λ t. let lt = there_below g n t in omega arith)
chain_past g (suc (suc k)) n h le = ap (list_any (has_chain g (suc k))) (no_calls g n le)

pub chains_none : (g : List Node) → for_each g (λ n. true) ≡ for_each g (has_chain g 0)
chains_none g = ap (for_each g) (sym (chain_first g))

pub chains_one : (g : List Node) → for_each g (is_there g) ≡ for_each g (has_chain g 1)
chains_one g = ap (for_each g) (sym (chain_one g))

chain_in : (g : List Node) (k c : ℕ) → 0 < k → is_in (for_each g (has_chain g k)) c || is_in [] c ≡ has_chain g k c
chain_in g k c pos =
    or_false (is_in (for_each g (has_chain g k)) c) ∙
    elim (cases_lt c (length g)) [
      | inl lt ↦ row_at g (has_chain g k) c lt
      | inr le ↦ row_past g (has_chain g k) c le ∙ sym (chain_past g k c pos le)
    ]

chains_more : (g : List Node) (k : ℕ) → 0 < k → for_each g (is_marked_or_calls g (for_each g (has_chain g k)) []) ≡ for_each g (has_chain g (k + 1))
chains_more g k pos = λ i. for_each g (λ n. at n i)
  where
    at : (n : ℕ) → is_marked_or_calls g (for_each g (has_chain g k)) [] n ≡ has_chain g (k + 1) n
    at n =
        any_same _ _ (λ c. chain_in g k c pos) (calls_at g n)
        ∙ sym (chain_next g k n pos)
        ∙ ap (λ m. has_chain g m n) (sym (add-one k))

pub chains_step : (g : List Node) (k : ℕ) (row next : List Bool) → 0 < k → row ≡ for_each g (has_chain g k) → next ≡ for_each g (is_marked_or_calls g row []) → next ≡ for_each g (has_chain g (k + 1))
chains_step g k row next pos r e = e ∙ ap (λ xs. for_each g (is_marked_or_calls g xs [])) r ∙ chains_more g k pos

-- ---- touched nodes

touch_first : (g : List Node) (marked : List Bool) → touches g marked 0 ≡ is_in marked
unfolding touches
touch_first g marked = refl

touch_next : (g : List Node) (marked : List Bool) (k n : ℕ) → touches g marked (suc k) n ≡ is_in marked n || list_any (touches g marked k) (calls_at g n)
unfolding touches
touch_next g marked k n = refl

touch_marked : (g : List Node) (marked : List Bool) (k n : ℕ) → is_in marked n ≡ true → touches g marked k n ≡ true
unfolding touches
touch_marked g marked zero n h = h
touch_marked g marked (suc k) n h = or_left (is_in marked n) (list_any (touches g marked k) (calls_at g n)) h

touch_past : (g : List Node) (marked : List Bool) (k n : ℕ) → length g ≤ n → touches g marked k n ≡ is_in marked n
unfolding touches
touch_past g marked zero n le = refl
touch_past g marked (suc k) n le = ap (λ cs. is_in marked n || list_any (touches g marked k) cs) (no_calls g n le) ∙ or_false (is_in marked n)

touch_in : (g : List Node) (marked : List Bool) (k c : ℕ) → is_in (for_each g (touches g marked k)) c || is_in marked c ≡ touches g marked k c
touch_in g marked k c =
    elim (cases_lt c (length g)) [
      | inl lt ↦
          ap (λ b. b || is_in marked c) (row_at g (touches g marked k) c lt)
          ∙ elim (is_in marked c) as (λ b. is_in marked c ≡ b → touches g marked k c || b ≡ touches g marked k c) [
            | true ↦ λ e. or_true (touches g marked k c) ∙ sym (touch_marked g marked k c e)
            | false ↦ λ _. or_false (touches g marked k c)
          ] refl
      | inr le ↦ ap (λ b. b || is_in marked c) (row_past g (touches g marked k) c le) ∙ sym (touch_past g marked k c le)
    ]

pub touching_none : (g : List Node) (marked : List Bool) → for_each g (is_in marked) ≡ for_each g (touches g marked 0)
touching_none g marked = ap (for_each g) (sym (touch_first g marked))

touching_more : (g : List Node) (marked : List Bool) (k : ℕ) → for_each g (is_marked_or_calls g (for_each g (touches g marked k)) marked) ≡ for_each g (touches g marked (k + 1))
touching_more g marked k = λ i. for_each g (λ n. at n i)
  where
    at : (n : ℕ) → is_marked_or_calls g (for_each g (touches g marked k)) marked n ≡ touches g marked (k + 1) n
    at n =
        ap (λ b. is_in marked n || b) (any_same _ _ (λ c. touch_in g marked k c) (calls_at g n))
        ∙ sym (touch_next g marked k n)
        ∙ ap (λ m. touches g marked m n) (sym (add-one k))

pub touching_step : (g : List Node) (marked : List Bool) (k : ℕ) (row next : List Bool) → row ≡ for_each g (touches g marked k) → next ≡ for_each g (is_marked_or_calls g row marked) → next ≡ for_each g (touches g marked (k + 1))
touching_step g marked k row next r e = e ∙ ap (λ xs. for_each g (is_marked_or_calls g xs marked)) r ∙ touching_more g marked k
