-- Where chains are short, few calls touch all that any number of calls touches, and no node leads to itself.
use Rattle.std.proofs.Common.{◌≡◌, ℕ, zero, suc, ◌+◌, ◌<◌, ◌≤◌, List, length, Bool, true, false, ◌⊎◌, inl, inr, refl, ap, sym, ◌∙◌, subst, arith, add-one}
use Rattle.std.specs.List.{list_any}
use Rattle.call_graph.specs.declared.graph.Node.{Node}
use Rattle.call_graph.specs.Calls.{calls_at, is_in, has_chain, leads, touches, HasNoChain}
use Rattle.call_graph.proofs.Found.{In, or_left, or_right, or_cases, found, found_by, both_ways, is_false, not_both}
use Rattle.call_graph.proofs.Nodes.{calls_there, calls_below, there_below}
use Rattle.call_graph.proofs.Leading.{leads_none, leads_cases, leads_below}

-- a call before a chain
chain_by : (g : List Node) (k f c : ℕ) → In (calls_at g f) c → has_chain g k c ≡ true → has_chain g (suc k) f ≡ true
unfolding has_chain
chain_by g zero f c m h = calls_there g f c m
chain_by g (suc k) f c m h = found_by (has_chain g (suc k)) (calls_at g f) c m h

-- a chain without its last node
chain_less : (g : List Node) (k f : ℕ) → has_chain g (suc k) f ≡ true → has_chain g k f ≡ true
unfolding has_chain
chain_less g zero f h = refl
chain_less g (suc zero) f h = let r = found (has_chain g 1) (calls_at g f) h in calls_there g f r.0 r.1
chain_less g (suc (suc k)) f h =
    let r = found (has_chain g (suc (suc k))) (calls_at g f) h in
    found_by (has_chain g (suc k)) (calls_at g f) r.0 r.1 (chain_less g (suc k) r.0 r.2)

-- ---- no node leads to itself

chain_before : (g : List Node) (m k f h : ℕ) → leads g m f h ≡ true → has_chain g k h ≡ true → has_chain g (suc k) f ≡ true
chain_before g zero k f h t c = absurd (leads_none g f h t)
chain_before g (suc m) k f h t c =
    let r = leads_cases g m f h t in
    chain_by g k f r.0 r.1
    (elim r.2 [
      | inl s ↦ subst (λ x. has_chain g k x ≡ true) (sym s) c
      | inr u ↦ chain_less g k r.0 (chain_before g m k r.0 h u c)
    ])

cycle_chain : (g : List Node) (m f k : ℕ) → leads g m f f ≡ true → has_chain g k f ≡ true
unfolding has_chain
cycle_chain g m f zero t = refl
cycle_chain g m f (suc k) t = chain_before g m k f f t (cycle_chain g m f k t)

pub no_cycle : (g : List Node) (calls : ℕ) → HasNoChain g (calls + 1) → (k n : ℕ) → leads g k n n ≡ false
no_cycle g calls none k n =
    is_false (leads g k n n)
    (λ t. not_both (has_chain g (calls + 1) n) (none n (leads_below g k n n t)) (cycle_chain g k n (calls + 1) t))

-- ---- further calls touch nothing more

touch_marked : (g : List Node) (marked : List Bool) (k n : ℕ) → is_in marked n ≡ true → touches g marked k n ≡ true
unfolding touches
touch_marked g marked zero n h = h
touch_marked g marked (suc k) n h = or_left (is_in marked n) (list_any (touches g marked k) (calls_at g n)) h

touch_cases : (g : List Node) (marked : List Bool) (k n : ℕ) → touches g marked (suc k) n ≡ true → (is_in marked n ≡ true) ⊎ ((c : ℕ) × (In (calls_at g n) c) × (touches g marked k c ≡ true))
unfolding touches
touch_cases g marked k n h =
    elim (or_cases (is_in marked n) (list_any (touches g marked k) (calls_at g n)) h) [
      | inl e ↦ inl e
      | inr e ↦ inr (found (touches g marked k) (calls_at g n) e)
    ]

touch_by : (g : List Node) (marked : List Bool) (k n c : ℕ) → In (calls_at g n) c → touches g marked k c ≡ true → touches g marked (suc k) n ≡ true
unfolding touches
touch_by g marked k n c m h = or_right (is_in marked n) _ (found_by (touches g marked k) (calls_at g n) c m h)

touch_zero : (g : List Node) (marked : List Bool) (n : ℕ) → touches g marked 0 n ≡ true → is_in marked n ≡ true
unfolding touches
touch_zero g marked n h = h

touch_more : (g : List Node) (marked : List Bool) (k m n : ℕ) → k ≤ m → touches g marked k n ≡ true → touches g marked m n ≡ true
touch_more g marked zero m n le h = touch_marked g marked m n (touch_zero g marked n h)
touch_more g marked (suc k) zero n le h = absurd (omega arith)
touch_more g marked (suc k) (suc m) n le h =
    elim (touch_cases g marked k n h) [
      | inl e ↦ touch_marked g marked (suc m) n e
      | inr r ↦ touch_by g marked m n r.0 r.1 (touch_more g marked k m r.0 (omega arith) r.2)
    ]

chain_zero : (g : List Node) (c : ℕ) → has_chain g 0 c ≡ true
unfolding has_chain
chain_zero g c = refl

-- what is touched is touched by k calls, or after a chain of more than k nodes
touch_or_chain : (g : List Node) (marked : List Bool) (k m n : ℕ) → touches g marked m n ≡ true → (touches g marked k n ≡ true) ⊎ (has_chain g (suc k) n ≡ true)
touch_or_chain g marked k zero n h = inl (touch_marked g marked k n (touch_zero g marked n h))
touch_or_chain g marked zero (suc m) n h =
    elim (touch_cases g marked m n h) [
      | inl e ↦ inl (touch_marked g marked zero n e)
      | inr r ↦ inr (chain_by g zero n r.0 r.1 (chain_zero g r.0))
    ]
touch_or_chain g marked (suc k) (suc m) n h =
    elim (touch_cases g marked m n h) [
      | inl e ↦ inl (touch_marked g marked (suc k) n e)
      | inr r ↦
          elim (touch_or_chain g marked k m r.0 r.2) [
            | inl t ↦ inl (touch_by g marked k n r.0 r.1 t)
            | inr c ↦ inr (chain_by g (suc k) n r.0 r.1 c)
          ]
    ]

chain_below : (g : List Node) (k n : ℕ) → has_chain g (suc k) n ≡ true → n < length g
unfolding has_chain
chain_below g zero n h = there_below g n h
chain_below g (suc k) n h = let r = found (has_chain g (suc k)) (calls_at g n) h in calls_below g n r.0 r.1

pub same_touched : (g : List Node) (marked : List Bool) (calls : ℕ) → HasNoChain g (calls + 1) → (k n : ℕ) → calls ≤ k → touches g marked k n ≡ touches g marked calls n
same_touched g marked calls none k n le =
    both_ways (touches g marked k n) (touches g marked calls n)
    (λ h. elim (touch_or_chain g marked calls k n h) [
      | inl t ↦ t
      | inr c ↦ absurd (not_both (has_chain g (calls + 1) n) (none n (chain_below g calls n c)) (ap (λ j. has_chain g j n) (add-one calls) ∙ c))
    ])
    (touch_more g marked calls k n le)
