-- Chains of calls and cycles of a graph, node by node.
use Rattle.std.proofs.Common.{◌≡◌, ℕ, zero, suc, ◌+◌, ◌<◌, ◌≤◌, nat_eq, Bool, true, false, ◌||◌, cond, List, [], ◌∷◌, ◌++◌, length, map, get_or, ◌⊎◌, inl, inr, refl, sym, ap, ◌∙◌, subst, arith}
use Rattle.std.specs.List.{list_any, range_with_len}
use Rattle.std.proofs.lemmas.List.{get_or_past}
use Rattle.std.proofs.lemmas.List.FromFn.{map-range_with_len_more}
use Rattle.std.proofs.lemmas.Bool.Decides.{Decides-eqb}
use Rattle.call_graph.specs.declared.graph.Node.{Node}
use Rattle.call_graph.specs.Calls.{no_node, calls_at, is_there, is_in, has_chain, leads, touches}

-- ---- past the end

no_calls : (g : List Node) (n : ℕ) → length g ≤ n → calls_at g n ≡ []
no_calls g n le = ap (λ (x : Node). cond x.there x.calls []) (get_or_past g n no_node le)

not_there : (g : List Node) (n : ℕ) → length g ≤ n → is_there g n ≡ false
not_there g n le = ap (λ (x : Node). x.there) (get_or_past g n no_node le)

pub chain_past : (g : List Node) (k n : ℕ) → 0 < k → length g ≤ n → has_chain g k n ≡ false
unfolding has_chain
chain_past g zero n h le = absurd (omega arith)
chain_past g (suc zero) n h le = not_there g n le
chain_past g (suc (suc k)) n h le = ap (list_any (has_chain g (suc k))) (no_calls g n le)

pub leads_past : (g : List Node) (k n h : ℕ) → length g ≤ n → leads g k n h ≡ false
unfolding leads
leads_past g zero n h le = refl
leads_past g (suc k) n h le = ap (list_any (λ (c : ℕ). nat_eq c h || leads g k c h)) (no_calls g n le)

pub touch_past : (g : List Node) (marked : List Bool) (k n : ℕ) → length g ≤ n → is_in marked n ≡ false → touches g marked k n ≡ false
unfolding touches
touch_past g marked zero n le e = e
touch_past g marked (suc k) n le e = ap (λ (cs : List ℕ). is_in marked n || list_any (touches g marked k) cs) (no_calls g n le) ∙ ap (λ (b : Bool). b || false) e

-- ---- a node that leads to itself begins chains of every length

or_cases : (a b : Bool) → a || b ≡ true → (a ≡ true) ⊎ (b ≡ true)
or_cases true b h = inl refl
or_cases false b h = inr h

or_right : (a b : Bool) → b ≡ true → a || b ≡ true
or_right true b h = refl
or_right false b h = h

pub any_more : (p q : ℕ → Bool) → ((c : ℕ) → p c ≡ true → q c ≡ true) → (xs : List ℕ) → list_any p xs ≡ true → list_any q xs ≡ true
any_more p q h [] e = e
any_more p q h (x ∷ xs) e =
    elim (or_cases (p x) (list_any p xs) e) [
      | inl here ↦ ap (λ (b : Bool). b || list_any q xs) (h x here)
      | inr rest ↦ or_right (q x) (list_any q xs) (any_more p q h xs rest)
    ]

any_there : (g : List Node) (p : ℕ → Bool) (n : ℕ) → list_any p (calls_at g n) ≡ true → is_there g n ≡ true
any_there g p n h =
    elim (is_there g n) as (λ (b : Bool). list_any p (cond b (get_or g n no_node).calls []) ≡ true → b ≡ true) [
      | true ↦ λ _. refl
      | false ↦ λ e. e
    ] h

-- a chain without its last node
pub chain_less : (g : List Node) (k f : ℕ) → has_chain g (suc k) f ≡ true → has_chain g k f ≡ true
unfolding has_chain
chain_less g zero f h = refl
chain_less g (suc zero) f h = any_there g (has_chain g 1) f h
chain_less g (suc (suc k)) f h = any_more (has_chain g (suc (suc k))) (has_chain g (suc k)) (λ c e. chain_less g (suc k) c e) (calls_at g f) h

chain_before : (g : List Node) (m k f h : ℕ) → leads g m f h ≡ true → has_chain g k h ≡ true → has_chain g (suc k) f ≡ true
unfolding has_chain leads
chain_before g zero k f h t c = absurd (cc (t))
chain_before g (suc m) zero f h t c = any_there g (λ (x : ℕ). nat_eq x h || leads g m x h) f t
chain_before g (suc m) (suc k) f h t c =
    any_more (λ (x : ℕ). nat_eq x h || leads g m x h) (has_chain g (suc k))
    (λ x e. elim (or_cases (nat_eq x h) (leads g m x h) e) [
      | inl s ↦ let same : x ≡ h = (Decides-eqb x h).0 s in subst (λ (y : ℕ). has_chain g (suc k) y ≡ true) (sym same) c
      | inr u ↦ chain_less g (suc k) x (chain_before g m (suc k) x h u c)
    ])
    (calls_at g f) t

cycle_chain : (g : List Node) (m f k : ℕ) → leads g m f f ≡ true → has_chain g k f ≡ true
unfolding has_chain
cycle_chain g m f zero t = refl
cycle_chain g m f (suc k) t = chain_before g m k f f t (cycle_chain g m f k t)

pub no_cycle : (g : List Node) (k m f : ℕ) (b : Bool) → leads g m f f ≡ b → has_chain g k f ≡ false → false ≡ b
no_cycle g k m f true e h = let chain = cycle_chain g m f k e in cc
no_cycle g k m f false e h = refl

-- ---- more calls than there are nodes

leads_more : (g : List Node) (k m f h : ℕ) → k ≤ m → leads g k f h ≡ true → leads g m f h ≡ true
unfolding leads
leads_more g zero m f h le t = absurd (cc (t))
leads_more g (suc k) zero f h le t = absurd (omega (arith, le))
leads_more g (suc k) (suc m) f h le t =
    any_more (λ (c : ℕ). nat_eq c h || leads g k c h) (λ (c : ℕ). nat_eq c h || leads g m c h)
    (λ c e. elim (or_cases (nat_eq c h) (leads g k c h) e) [
      | inl s ↦ ap (λ (b : Bool). b || leads g m c h) s
      | inr u ↦ or_right (nat_eq c h) (leads g m c h) (leads_more g k m c h (omega (arith, le)) u)
    ])
    (calls_at g f) t

-- what was found with as many calls as there are nodes is what is found with more
pub looping_far : (g : List Node) (n : ℕ) (found : Bool) → found ≡ leads g (length g) n n → (found ≡ false → (k : ℕ) → leads g k n n ≡ false) → (m : ℕ) → length g ≤ m → found ≡ leads g m n n
looping_far g n true e never m le = sym (leads_more g (length g) m n n le (sym e))
looping_far g n false e never m le = sym (never refl m)

-- a row with one more truth value at its end
pub grown : (p : ℕ → Bool) (n : ℕ) (row next : List Bool) (b : Bool) → row ≡ map p (range_with_len 0 n) → next ≡ row ++ b ∷ [] → b ≡ p n → next ≡ map p (range_with_len 0 (n + 1))
grown p n row next b r e s =
    e ∙ ap (λ (xs : List Bool). xs ++ b ∷ []) r
    ∙ ap (λ (x : Bool). map p (range_with_len 0 n) ++ x ∷ []) s
    ∙ sym (map-range_with_len_more p 0 n n (omega arith))
