-- Groups in another order have as many choices, and guide a walk as well.
use Rattle.std.proofs.Common.{◌≡◌, ℕ, ◌*◌, ◌<◌, ◌≤◌, suc, zero, List, [], ◌∷◌, length, get_or, set, arith, sym, ◌∙◌, subst, Bool, true, refl, ap}
use Rattle.std.specs.List.{list_all, list_any, swap}
use Rattle.std.specs.List.Sorted.{IsPermutation}
use Rattle.std.proofs.lemmas.List.Edits.{swap_is}
use Rattle.std.proofs.lemmas.List.Sorted.{IsPermutation-keeps, IsPermutation-sym, IsPermutation-map}
use Rattle.cnf_base.specs.declared.lit.Lit.{Lit}
use Rattle.cnf_base.specs.Clauses.{variables, clause_variables}
use Rattle.cnf_base.specs.Known.{is_true}
use Rattle.cnf_base.proofs.Sound.{and_true}
use Rattle.cnf_base.proofs.VariableBounds.{clause_at}
use Rattle.cnf_gate.specs.Built.{is_filled}
use Rattle.cnf_search.specs.Guides.{Guides}
use Rattle.cnf_search.specs.Lines.{choices}
use Rattle.cnf_search.specs.Orders.{picked}
use Rattle.cnf_search.specs.declared.order.Ranked.{Ranked}
use Rattle.cnf_search.specs.Queue.{is_calm}

-- ---- a test of each item

all_at : (t : List Lit → Bool) (gs : List (List Lit)) (i : ℕ) → i < length gs → list_all t gs ≡ true → t (get_or gs i []) ≡ true
all_at t [] i h k = absurd (omega (arith, h))
all_at t (g ∷ gs) zero h k = (and_true (t g) (list_all t gs) k).0
all_at t (g ∷ gs) (suc i) h k = all_at t gs i (omega (arith, h)) (and_true (t g) (list_all t gs) k).1

all_set : (t : List Lit → Bool) (gs : List (List Lit)) (i : ℕ) (x : List Lit) → list_all t gs ≡ true → t x ≡ true → list_all t (set gs i x) ≡ true
all_set t [] i x k h = refl
all_set t (g ∷ gs) zero x k h = rw h (and_true (t g) (list_all t gs) k).1
all_set t (g ∷ gs) (suc i) x k h = let s = and_true (t g) (list_all t gs) k in rw s.0 (all_set t gs i x s.1 h)

all_swapped : (t : List Lit → Bool) (gs : List (List Lit)) (i j : ℕ) → i < length gs → j < length gs → list_all t gs ≡ true → list_all t (swap gs i j) ≡ true
all_swapped t gs i j h k a =
    let P : List (List Lit) → Type 0 = λ z. list_all t z ≡ true in
    subst P (swap_is gs i j [] h k) (all_set t (set gs i (get_or gs j [])) j (get_or gs i []) (all_set t gs i (get_or gs j []) a (all_at t gs j k a)) (all_at t gs i h a))

pub all_permuted : (t : List Lit → Bool) (gs hs : List (List Lit)) → IsPermutation gs hs → list_all t gs ≡ true → list_all t hs ≡ true
all_permuted t gs hs p a = IsPermutation-keeps gs (λ z. list_all t z ≡ true) a (λ l i j h k b. all_swapped t l i j h k b) hs p

-- ---- the number of choices

scaled : (m a b x y : ℕ) → x * a ≡ y * b → (m * x) * a ≡ (m * y) * b
scaled m a b x y h = grind (arith, by)
  where
    by : m * (x * a) ≡ m * (y * b)
    by = ap (λ (k : ℕ). m * k) h

choices_set : (gs : List (List Lit)) (i : ℕ) (x : List Lit) → i < length gs → choices (set gs i x) * length (get_or gs i []) ≡ choices gs * length x
choices_set [] i x h = absurd (omega (arith, h))
choices_set (g ∷ gs) zero x h = turned (length x) (choices gs) (length g)
  where
    turned : (a c b : ℕ) → (a * c) * b ≡ (b * c) * a
    turned a c b = grind arith
choices_set (g ∷ gs) (suc i) x h = scaled (length g) (length (get_or gs i [])) (length x) (choices (set gs i x)) (choices gs) (choices_set gs i x (omega (arith, h)))

length_set : (gs : List (List Lit)) (i : ℕ) (x : List Lit) → length (set gs i x) ≡ length gs
length_set [] i x = refl
length_set (g ∷ gs) zero x = refl
length_set (g ∷ gs) (suc i) x = ap suc (length_set gs i x)

-- what stands at a place after a write
get_set : (gs : List (List Lit)) (i j : ℕ) → i < length gs → j < length gs → get_or (set gs i (get_or gs j [])) j [] ≡ get_or gs j []
get_set gs i j h k = go gs i j (get_or gs j []) refl h
  where
    go : (gs : List (List Lit)) (i j : ℕ) (x : List Lit) → x ≡ get_or gs j [] → i < length gs → get_or (set gs i x) j [] ≡ x
    go [] i j x e h = absurd (omega (arith, h))
    go (g ∷ gs) zero zero x e h = refl
    go (g ∷ gs) zero (suc j) x e h = sym e
    go (g ∷ gs) (suc i) zero x e h = sym e
    go (g ∷ gs) (suc i) (suc j) x e h = go gs i j x e (omega (arith, h))

filled_long : (g : List Lit) → is_filled g ≡ true → 0 < length g
filled_long [] h = cc
filled_long (l ∷ g) h = omega arith

choices_swapped : (gs : List (List Lit)) (i j : ℕ) → i < length gs → j < length gs → list_all is_filled gs ≡ true → choices (swap gs i j) ≡ choices gs
choices_swapped gs i j h k f =
    let a : List Lit = get_or gs i [] in
    let b : List Lit = get_or gs j [] in
    let mid : List (List Lit) = set gs i b in
    let one : choices mid * length a ≡ choices gs * length b = choices_set gs i b h in
    let two : choices (set mid j a) * length b ≡ choices mid * length a =
    ap (λ (z : List Lit). choices (set mid j a) * length z) (sym (get_set gs i j h k)) ∙ choices_set mid j a (omega (arith, k, length_set gs i b)) in
    ap choices (sym (swap_is gs i j [] h k)) ∙ cancelled (choices (set mid j a)) (choices gs) (length b) (two ∙ one) (filled_long b (all_at is_filled gs j k f))
  where
    cancelled : (x y b : ℕ) → x * b ≡ y * b → 0 < b → x ≡ y
    cancelled x y b e h = grind (arith, e, h)

pub choices_permuted : (gs hs : List (List Lit)) → list_all is_filled gs ≡ true → IsPermutation gs hs → choices hs ≡ choices gs
choices_permuted gs hs f p =
    (IsPermutation-keeps gs (λ z. (list_all is_filled z ≡ true) × (choices z ≡ choices gs)) (f, refl)
    (λ l i j h k s. (all_swapped is_filled l i j h k s.0, choices_swapped l i j h k s.0 ∙ s.1)) hs p).1

-- ---- what a walk has to know

variables_set : (gs : List (List Lit)) (i n : ℕ) (x : List Lit) → variables gs ≤ n → clause_variables x ≤ n → variables (set gs i x) ≤ n
variables_set [] i n x h k = h
variables_set (g ∷ gs) zero n x h k = omega (arith, h, k)
variables_set (g ∷ gs) (suc i) n x h k = omega (arith, h, variables_set gs i n x (omega (arith, h)) k)

variables_permuted : (gs hs : List (List Lit)) (n : ℕ) → IsPermutation gs hs → variables gs ≤ n → variables hs ≤ n
variables_permuted gs hs n p v =
    IsPermutation-keeps gs (λ z. variables z ≤ n) v
    (λ l i j h k s.
    let P : List (List Lit) → Type 0 = λ z. variables z ≤ n in
    subst P (swap_is l i j [] h k)
    (variables_set (set l i (get_or l j [])) j n (get_or l i []) (variables_set l i n (get_or l j []) s (omega (arith, s, clause_at l j [] k))) (omega (arith, s, clause_at l i [] h)))) hs p

pub guides_permuted : (f gs hs : List (List Lit)) → Guides f gs → IsPermutation gs hs → Guides f hs
guides_permuted f gs hs g p = record {
  stated = λ q k. all_permuted (is_calm q) gs hs p (g.stated q k);
  valued = λ q d k. g.valued q (all_permuted (list_any (is_true q)) hs gs (IsPermutation-sym gs hs p) d) k;
  filled = all_permuted is_filled gs hs p g.filled;
  within = variables_permuted gs hs (variables f) p g.within;
}

-- ---- the groups at the places of a list

pub picked_permuted : (gs hs : List (List Lit)) (rs ss : List Ranked) → picked gs rs ≡ gs → IsPermutation rs ss → hs ≡ picked gs ss → IsPermutation gs hs
picked_permuted gs hs rs ss e p h =
    let P : List (List Lit) → Type 0 = λ z. IsPermutation z (picked gs ss) in
    let Q : List (List Lit) → Type 0 = λ z. IsPermutation gs z in
    subst Q (sym h) (subst P e (IsPermutation-map (λ (r : Ranked). get_or gs r.place []) rs ss p))
