-- Choices of one literal per group by their places: each can be made, and says which literals of the groups are true.
use Rattle.std.proofs.Common.{◌≡◌, ℕ, ◌+◌, ◌<◌, ◌≤◌, suc, zero, List, [], ◌∷◌, ◌++◌, length, arith, sym, ◌∙◌, Bool, true, false, cond, eqb, not, ◌&&◌, ◌||◌, refl, ap, ltb}
use Rattle.std.specs.Bool.{beq}
use Rattle.std.specs.List.{list_any, list_all}
use Rattle.std.proofs.lemmas.Bool.Decides.{nat_tests, Decides-eqb}
use Rattle.cnf_base.specs.declared.lit.Lit.{Lit}
use Rattle.cnf_base.specs.Clauses.{lit_true, clause_variables, variables}
use Rattle.cnf_base.proofs.Sound.{and_true, beq_same, beq_refl}
use Rattle.cnf_gate.specs.Built.{is_choice, is_agreed, exactly_one, is_only_at, is_chosen, ArePlaces, AreRising}
use Rattle.cnf_gate.proofs.Step.{agreed_below}

-- ---- what a choice says of each literal

not_true : (b : Bool) → not b ≡ true → b ≡ false
not_true true h = sym h
not_true false h = refl

not_false : (b : Bool) → b ≡ false → not b ≡ true
not_false b h = ap not h

abbrev pub agree_on : (ℕ → Bool) → (ℕ → Bool) → List Lit → Bool
agree_on v w g = list_all (λ l. beq (lit_true v l) (lit_true w l)) g

-- values that agree on a list have a true literal there both or neither
any_same : (v w : ℕ → Bool) (g : List Lit) → agree_on v w g ≡ true → list_any (lit_true v) g ≡ list_any (lit_true w) g
any_same v w [] h = refl
any_same v w (l ∷ g) h =
    let s = and_true (beq (lit_true v l) (lit_true w l)) (agree_on v w g) h in
    let first : lit_true v l ≡ lit_true w l = beq_same (lit_true v l) (lit_true w l) s.0 in
    let rest : list_any (lit_true v) g ≡ list_any (lit_true w) g = any_same v w g s.1 in
    λ i. first i || rest i

none_agree : (v w : ℕ → Bool) (g : List Lit) → list_any (lit_true v) g ≡ false → list_any (lit_true w) g ≡ false → agree_on v w g ≡ true
none_agree v w [] h k = refl
none_agree v w (l ∷ g) h k =
    let s = or_false_both (lit_true v l) (list_any (lit_true v) g) h in
    let t = or_false_both (lit_true w l) (list_any (lit_true w) g) k in
    let e : lit_true v l ≡ lit_true w l = s.0 ∙ sym t.0 in
    rw (e, beq_refl (lit_true w l)) (none_agree v w g s.1 t.1)
  where
    or_false_both : (a b : Bool) → a || b ≡ false → (a ≡ false) × (b ≡ false)
    or_false_both true b h = cc
    or_false_both false b h = (refl, h)

only_exact : (v : ℕ → Bool) (g : List Lit) (k : ℕ) → is_only_at v g k ≡ true → exactly_one v g ≡ true
only_exact v [] k h = cc
only_exact v (l ∷ g) zero h =
    let s = and_true (lit_true v l) (not (list_any (lit_true v) g)) h in
    rw s.0 s.1
only_exact v (l ∷ g) (suc k) h =
    let s = and_true (not (lit_true v l)) (is_only_at v g k) h in
    rw (not_true (lit_true v l) s.0) (only_exact v g k s.1)

only_along : (v w : ℕ → Bool) (g : List Lit) (k : ℕ) → agree_on v w g ≡ true → is_only_at v g k ≡ is_only_at w g k
only_along v w [] k h = refl
only_along v w (l ∷ g) zero h =
    let s = and_true (beq (lit_true v l) (lit_true w l)) (agree_on v w g) h in
    let first : lit_true v l ≡ lit_true w l = beq_same (lit_true v l) (lit_true w l) s.0 in
    let rest : list_any (lit_true v) g ≡ list_any (lit_true w) g = any_same v w g s.1 in
    λ i. first i && not (rest i)
only_along v w (l ∷ g) (suc k) h =
    let s = and_true (beq (lit_true v l) (lit_true w l)) (agree_on v w g) h in
    let first : lit_true v l ≡ lit_true w l = beq_same (lit_true v l) (lit_true w l) s.0 in
    let rest : is_only_at v g k ≡ is_only_at w g k = only_along v w g k s.1 in
    λ i. not (first i) && rest i

only_agree : (v w : ℕ → Bool) (g : List Lit) (k : ℕ) → is_only_at v g k ≡ true → is_only_at w g k ≡ true → agree_on v w g ≡ true
only_agree v w [] k h e = cc
only_agree v w (l ∷ g) zero h e =
    let s = and_true (lit_true v l) (not (list_any (lit_true v) g)) h in
    let t = and_true (lit_true w l) (not (list_any (lit_true w) g)) e in
    let rest : agree_on v w g ≡ true = none_agree v w g (not_true (list_any (lit_true v) g) s.1) (not_true (list_any (lit_true w) g) t.1) in
    rw (s.0, t.0) rest
only_agree v w (l ∷ g) (suc k) h e =
    let s = and_true (not (lit_true v l)) (is_only_at v g k) h in
    let t = and_true (not (lit_true w l)) (is_only_at w g k) e in
    rw (not_true (lit_true v l) s.0, not_true (lit_true w l) t.0) (only_agree v w g k s.1 t.1)

-- a choice by places is a choice
pub chosen_choice : (v : ℕ → Bool) (groups : List (List Lit)) (places : List ℕ) → is_chosen v groups places ≡ true → is_choice v groups ≡ true
chosen_choice v [] places h = refl
chosen_choice v (g ∷ gs) [] h = cc
chosen_choice v (g ∷ gs) (k ∷ ks) h =
    let s = and_true (is_only_at v g k) (is_chosen v gs ks) h in
    rw (only_exact v g k s.0) (chosen_choice v gs ks s.1)

-- values that agree on the groups make the same choices
pub chosen_along : (v w : ℕ → Bool) (groups : List (List Lit)) (places : List ℕ) → is_agreed v w groups ≡ true → is_chosen v groups places ≡ is_chosen w groups places
chosen_along v w [] [] h = refl
chosen_along v w [] (k ∷ ks) h = refl
chosen_along v w (g ∷ gs) [] h = refl
chosen_along v w (g ∷ gs) (k ∷ ks) h =
    let s = and_true (agree_on v w g) (is_agreed v w gs) h in
    let first : is_only_at v g k ≡ is_only_at w g k = only_along v w g k s.0 in
    let rest : is_chosen v gs ks ≡ is_chosen w gs ks = chosen_along v w gs ks s.1 in
    λ i. first i && rest i

-- values that make one choice agree on the groups
pub chosen_agree : (v w : ℕ → Bool) (groups : List (List Lit)) (places : List ℕ) → is_chosen v groups places ≡ true → is_chosen w groups places ≡ true → is_agreed v w groups ≡ true
chosen_agree v w [] places h e = refl
chosen_agree v w (g ∷ gs) [] h e = cc
chosen_agree v w (g ∷ gs) (k ∷ ks) h e =
    let s = and_true (is_only_at v g k) (is_chosen v gs ks) h in
    let t = and_true (is_only_at w g k) (is_chosen w gs ks) e in
    rw (only_agree v w g k s.0 t.0) (chosen_agree v w gs ks s.1 t.1)

-- ---- one more group of new variables

-- the values that make the literal at this place true alone
picked : List Lit → ℕ → ℕ → Bool
picked [] k n = false
picked (l ∷ g) zero n = eqb l.var n
picked (l ∷ g) (suc k) n = picked g k n

eqb_refl : (n : ℕ) → eqb n n ≡ true
eqb_refl n = (Decides-eqb n n).1 refl

eqb_below : (m n : ℕ) → m < n → eqb m n ≡ false
eqb_below m n h = grind (arith, nat_tests)

eqb_above : (m n : ℕ) → n < m → eqb m n ≡ false
eqb_above m n h = grind (arith, nat_tests)

picked_below : (g : List Lit) (k m n : ℕ) → AreRising m g → n < m → picked g k n ≡ false
unfolding picked
picked_below [] k m n h b = refl
picked_below (l ∷ g) zero m n h b = let low : m ≤ l.var = h.0 in eqb_above l.var n (omega arith)
picked_below (l ∷ g) (suc k) m n h b = let low : m ≤ l.var = h.0 in picked_below g k (l.var + 1) n h.1 (omega arith)

positive_here : (v : ℕ → Bool) (l : Lit) (b : Bool) → l.positive ≡ true → v l.var ≡ b → lit_true v l ≡ b
positive_here v l b p e = rw (e, p) (beq_true b)
  where
    beq_true : (b : Bool) → beq b true ≡ b
    beq_true true = refl
    beq_true false = refl

none_picked : (v : ℕ → Bool) (g : List Lit) (m : ℕ) → AreRising m g → list_all (λ l. l.positive) g ≡ true → ((n : ℕ) → m ≤ n → v n ≡ false)
    → list_any (lit_true v) g ≡ false
none_picked v [] m h p e = refl
none_picked v (l ∷ g) m h p e =
    let s = and_true l.positive (list_all (λ (x : Lit). x.positive) g) p in
    let low : m ≤ l.var = h.0 in
    rw (positive_here v l false s.0 (e l.var low)) (none_picked v g (l.var + 1) h.1 s.1 (λ n k. e n (omega arith)))

only_picked : (v : ℕ → Bool) (g : List Lit) (k m : ℕ) → AreRising m g → list_all (λ l. l.positive) g ≡ true → k < length g
    → ((n : ℕ) → m ≤ n → v n ≡ picked g k n) → is_only_at v g k ≡ true
unfolding picked
only_picked v [] k m h p b e = absurd (omega arith)
only_picked v (l ∷ g) zero m h p b e =
    let s = and_true l.positive (list_all (λ (x : Lit). x.positive) g) p in
    let low : m ≤ l.var = h.0 in
    let here : lit_true v l ≡ true = positive_here v l true s.0 (e l.var low ∙ eqb_refl l.var) in
    let none : list_any (lit_true v) g ≡ false = none_picked v g (l.var + 1) h.1 s.1 (λ n k. e n (omega arith) ∙ eqb_below l.var n (omega arith)) in
    rw (here, none) refl
only_picked v (l ∷ g) (suc k) m h p b e =
    let s = and_true l.positive (list_all (λ (x : Lit). x.positive) g) p in
    let low : m ≤ l.var = h.0 in
    let here : lit_true v l ≡ false = positive_here v l false s.0 (e l.var low ∙ picked_below g k (l.var + 1) l.var h.1 (omega arith)) in
    rw here (only_picked v g k (l.var + 1) h.1 s.1 (omega arith) (λ n b. e n (omega arith)))

places_split : (gs : List (List Lit)) (g : List Lit) (places : List ℕ) → ArePlaces (gs ++ g ∷ []) places
    → (ks : List ℕ) × (k : ℕ) × (places ≡ ks ++ k ∷ []) × ArePlaces gs ks × (k < length g)
places_split [] g [] h = absurd h
places_split [] g (k ∷ []) h = ([], k, refl, tt, h.0)
places_split [] g (k ∷ j ∷ ks) h = absurd h.1
places_split (a ∷ gs) g [] h = absurd h
places_split (a ∷ gs) g (k ∷ ks) h =
    let s = places_split gs g ks h.1 in
    (k ∷ s.0, s.1, ap (λ (z : List ℕ). k ∷ z) s.2, (h.0, s.3), s.4)

chosen_end : (v : ℕ → Bool) (gs : List (List Lit)) (g : List Lit) (ks : List ℕ) (k : ℕ) → ArePlaces gs ks → is_chosen v gs ks ≡ true → is_only_at v g k ≡ true
    → is_chosen v (gs ++ g ∷ []) (ks ++ k ∷ []) ≡ true
chosen_end v [] g [] k a h e = rw e refl
chosen_end v [] g (j ∷ ks) k a h e = absurd a
chosen_end v (b ∷ gs) g [] k a h e = absurd a
chosen_end v (b ∷ gs) g (j ∷ ks) k a h e =
    let s = and_true (is_only_at v b j) (is_chosen v gs ks) h in
    rw s.0 (chosen_end v gs g ks k a.1 s.1 e)

joined : (ℕ → Bool) → (ℕ → Bool) → ℕ → ℕ → Bool
joined u v m n = cond (ltb n m) (u n) (v n)

joined_below : (u v : ℕ → Bool) (m n : ℕ) → n < m → joined u v m n ≡ u n
unfolding joined
joined_below u v m n h = let e : ltb n m ≡ true = grind (arith, nat_tests) in rw e refl

joined_above : (u v : ℕ → Bool) (m n : ℕ) → m ≤ n → joined u v m n ≡ v n
unfolding joined
joined_above u v m n h = let e : ltb n m ≡ false = grind (arith, nat_tests) in rw e refl

-- where each choice of some groups can be made, each choice of them and a group of new variables can
pub free-group : (groups : List (List Lit)) (g : List Lit) (first : ℕ) → variables groups ≤ first → AreRising first g → list_all (λ l. l.positive) g ≡ true
    → ((places : List ℕ) → ArePlaces groups places → (u : ℕ → Bool) × (is_chosen u groups places ≡ true))
    → (places : List ℕ) → ArePlaces (groups ++ g ∷ []) places → (u : ℕ → Bool) × (is_chosen u (groups ++ g ∷ []) places ≡ true)
free-group groups g first low rising positive free places h =
    let s = places_split groups g places h in
    let ks : List ℕ = s.0 in
    let k : ℕ = s.1 in
    let was = free ks s.3 in
    let v : ℕ → Bool = joined was.0 (picked g k) first in
    let agree : is_agreed v was.0 groups ≡ true = agreed_below v was.0 groups (λ n b. joined_below was.0 (picked g k) first n (omega arith)) in
    let old : is_chosen v groups ks ≡ true = chosen_along v was.0 groups ks agree ∙ was.1 in
    let new : is_only_at v g k ≡ true = only_picked v g k first rising positive s.4 (λ n b. joined_above was.0 (picked g k) first n b) in
    (v, ap (is_chosen v (groups ++ g ∷ [])) s.2 ∙ chosen_end v groups g ks k s.3 old new)

pub free-empty : (places : List ℕ) → ArePlaces [] places → (u : ℕ → Bool) × (is_chosen u [] places ≡ true)
free-empty [] h = ((λ n. false), refl)
free-empty (k ∷ ks) h = absurd h

-- ---- rising variables

pub AreRising-end : (xs : List Lit) (x : Lit) (m : ℕ) → AreRising m xs → clause_variables xs ≤ x.var → m ≤ x.var → AreRising m (xs ++ x ∷ [])
AreRising-end [] x m h c b = (b, tt)
AreRising-end (l ∷ xs) x m h c b = (h.0, AreRising-end xs x (l.var + 1) h.1 (omega arith) (omega arith))
