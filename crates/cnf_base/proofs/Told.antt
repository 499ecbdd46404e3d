-- How the table of a trail follows its literals.
use Rattle.std.proofs.Common.{◌≡◌, ℕ, ◌+◌, ◌<◌, ◌≤◌, suc, zero, List, [], ◌∷◌, ◌++◌, ◌-◌, length, get_or, set, take, arith, subst, sym, ◌∙◌, Option, Some, None, Bool, true, false, cond, eqb, refl, ap, ◌⊎◌, inl, inr, length-append}
use Rattle.std.proofs.lemmas.Bool.Decides.{nat_tests, Decides-eqb}
use Rattle.std.proofs.Math.ListN.{length-set}
use Rattle.std.proofs.lemmas.Grind.{common_steps, elements}
use Rattle.cnf_base.specs.declared.lit.Lit.{Lit}
use Rattle.cnf_base.specs.Clauses.{clause_variables}
use Rattle.cnf_base.specs.Known.{value_of, IsTold, made_true}

pub none_left : {X : Type 0} (b : Bool) (x : X) (y : Option X) → cond b (Some x) y ≡ None → (b ≡ false) × (y ≡ None)
none_left true x y h = cc
none_left false x y h = (refl, h)

pub value_of-push : (ls : List Lit) (l : Lit) (n : ℕ) → value_of ls l.var ≡ None → value_of (ls ++ l ∷ []) n ≡ made_true (value_of ls) l n
value_of-push [] l n h = refl
value_of-push (m ∷ ls) l n h =
    let s : (eqb m.var l.var ≡ false) × (value_of ls l.var ≡ None) = none_left (eqb m.var l.var) m.positive (value_of ls l.var) h in
    let i : value_of (ls ++ l ∷ []) n ≡ made_true (value_of ls) l n = value_of-push ls l n s.1 in
    grind (arith, nat_tests)

pub value_of-above : (ls : List Lit) (n : ℕ) → ((i : ℕ) (d : Lit) → i < length ls → (get_or ls i d).var < n) → value_of ls n ≡ None
value_of-above [] n h = refl
value_of-above (m ∷ ls) n h =
    let first : m.var < n = h zero m (omega arith) in
    let rest : value_of ls n ≡ None = value_of-above ls n (λ i d k. h (suc i) d (omega arith)) in
    grind (arith, nat_tests)

pub value_of-push_all : (ls : List Lit) (l : Lit) → value_of ls l.var ≡ None → value_of (ls ++ l ∷ []) ≡ made_true (value_of ls) l
value_of-push_all ls l h = λ i. λ n. value_of-push ls l n h i

-- an index of a list with one more element at its end
pub snoc_cases : {X : Type 0} (xs : List X) (y : X) (i : ℕ) (d : X) → i < length (xs ++ y ∷ [])
    → ((i < length xs) × (get_or (xs ++ y ∷ []) i d ≡ get_or xs i d) × (take i (xs ++ y ∷ []) ≡ take i xs))
    ⊎ ((i ≡ length xs) × (get_or (xs ++ y ∷ []) i d ≡ y) × (take i (xs ++ y ∷ []) ≡ xs))
snoc_cases [] y zero d h = inr (refl, refl, refl)
snoc_cases [] y (suc i) d h = absurd (omega arith)
snoc_cases (x ∷ xs) y zero d h = inl (omega arith, refl, refl)
snoc_cases (x ∷ xs) y (suc i) d h =
    elim (snoc_cases xs y i d (omega arith)) [
      | inl w ↦ inl (omega arith, w.1, ap (λ t. x ∷ t) w.2)
      | inr w ↦ inr (omega arith, w.1, ap (λ t. x ∷ t) w.2)
    ]

-- what holds of each element and of one more holds of each element of both
pub snoc_all : {X : Type 0} (P : List X → X → Type 0) (xs : List X) (y : X)
    → ((i : ℕ) (d : X) → i < length xs → P (take i xs) (get_or xs i d)) → P xs y
    → (i : ℕ) (d : X) → i < length (xs ++ y ∷ []) → P (take i (xs ++ y ∷ [])) (get_or (xs ++ y ∷ []) i d)
snoc_all P xs y h k i d n =
    elim (snoc_cases xs y i d n) [
      | inl w ↦ rw (w.1, w.2) (h i d w.0)
      | inr w ↦ rw (w.1, w.2) k
    ]

pub snoc_front : {X : Type 0} (P : List X → X → Type 0) (xs : List X) (y : X)
    → ((i : ℕ) (d : X) → i < length (xs ++ y ∷ []) → P (take i (xs ++ y ∷ [])) (get_or (xs ++ y ∷ []) i d))
    → (i : ℕ) (d : X) → i < length xs → P (take i xs) (get_or xs i d)
snoc_front P xs y h i d n =
    let m : i < length (xs ++ y ∷ []) = omega (arith, length-append xs (y ∷ [])) in
    elim (snoc_cases xs y i d m) [
      | inl w ↦ subst (λ (t : List _). P t (get_or xs i d)) w.2 (subst (λ (z : _). P (take i (xs ++ y ∷ [])) z) w.1 (h i d m))
      | inr w ↦ absurd (omega arith)
    ]

pub snoc_last : {X : Type 0} (P : List X → X → Type 0) (xs : List X) (y : X)
    → ((i : ℕ) (d : X) → i < length (xs ++ y ∷ []) → P (take i (xs ++ y ∷ [])) (get_or (xs ++ y ∷ []) i d)) → P xs y
snoc_last P xs y h =
    let m : length xs < length (xs ++ y ∷ []) = omega (arith, length-append xs (y ∷ [])) in
    elim (snoc_cases xs y (length xs) y m) [
      | inl w ↦ absurd (omega arith)
      | inr w ↦ subst (λ (t : List _). P t y) w.2 (subst (λ (z : _). P (take (length xs) (xs ++ y ∷ [])) z) w.1 (h (length xs) y m))
    ]

pub IsTold-push : (vs : List (Option Bool)) (ls : List Lit) (l : Lit) → IsTold vs ls → l.var < length vs → value_of ls l.var ≡ None
    → IsTold (set vs l.var (Some l.positive)) (ls ++ l ∷ [])
IsTold-push vs ls l t room fresh = record {
  told = λ n k.
      let same : value_of (ls ++ l ∷ []) n ≡ made_true (value_of ls) l n = value_of-push ls l n fresh in
      let short : n < length vs = omega (arith, length-set vs l.var (Some l.positive)) in
      let was : get_or vs n None ≡ value_of ls n = t.told n short in
      grind (arith, common_steps, elements, nat_tests);
  fresh = snoc_all (λ front m. value_of front m.var ≡ None) ls l t.fresh fresh;
  within = λ i d k. rw length-set (snoc_all (λ front m. m.var < length vs) ls l t.within room i d k);
}

pub IsTold-pop : (vs : List (Option Bool)) (ls : List Lit) (l : Lit) → IsTold vs (ls ++ l ∷ []) → IsTold (set vs l.var None) ls
IsTold-pop vs ls l t =
    let fresh : value_of ls l.var ≡ None = snoc_last (λ front m. value_of front m.var ≡ None) ls l t.fresh in
    let room : l.var < length vs = snoc_last (λ front m. m.var < length vs) ls l t.within in
    record {
      told = λ n k.
          let same : value_of (ls ++ l ∷ []) n ≡ made_true (value_of ls) l n = value_of-push ls l n fresh in
          let short : n < length vs = omega (arith, length-set vs l.var None) in
          let was : get_or vs n None ≡ value_of (ls ++ l ∷ []) n = t.told n short in
          grind (arith, common_steps, elements, nat_tests);
      fresh = snoc_front (λ front m. value_of front m.var ≡ None) ls l t.fresh;
      within = λ i d k. rw length-set (snoc_front (λ front m. m.var < length vs) ls l t.within i d k);
    }

pub IsTold-grow : (vs : List (Option Bool)) (ls : List Lit) → IsTold vs ls → IsTold (vs ++ None ∷ []) ls
IsTold-grow vs ls t = record {
  told = λ n k.
      let above : value_of ls (length vs) ≡ None = value_of-above ls (length vs) t.within in
      elim (snoc_cases vs None n None k) [
        | inl w ↦ w.1 ∙ t.told n w.0
        | inr w ↦ w.1 ∙ (let e : n ≡ length vs = w.0 in rw e (sym above))
      ];
  fresh = t.fresh;
  within = λ i d k. omega (arith, t.within i d k, length-append vs (None ∷ []));
}

-- ---- a trail has at most as many literals as its table has places

count_some : List (Option Bool) → ℕ
count_some [] = 0
count_some (None ∷ vs) = count_some vs
count_some (Some b ∷ vs) = count_some vs + 1

count_some-le : (vs : List (Option Bool)) → count_some vs ≤ length vs
unfolding count_some
count_some-le [] = omega arith
count_some-le (None ∷ vs) = omega (arith, count_some-le vs)
count_some-le (Some b ∷ vs) = omega (arith, count_some-le vs)

count_some-set : (vs : List (Option Bool)) (n : ℕ) (b : Bool) → get_or vs n None ≡ Some b → count_some (set vs n None) + 1 ≡ count_some vs
unfolding count_some
count_some-set [] n b h = cc
count_some-set (None ∷ vs) zero b h = cc
count_some-set (Some x ∷ vs) zero b h = refl
count_some-set (None ∷ vs) (suc n) b h = count_some-set vs n b h
count_some-set (Some x ∷ vs) (suc n) b h = omega (arith, count_some-set vs n b h)

split_last : {X : Type 0} (xs : List X) (n : ℕ) → length xs ≡ n + 1 → (front : List X) × (x : X) × (xs ≡ front ++ x ∷ []) × (length front ≡ n)
split_last [] n h = absurd (omega arith)
split_last (x ∷ []) n h = ([], x, refl, omega arith)
split_last (x ∷ y ∷ xs) n h =
    let s = split_last (y ∷ xs) (n - 1) (omega arith) in
    (x ∷ s.0, s.1, ap (λ t. x ∷ t) s.2, omega (arith, s.3))

told_short : (n : ℕ) (vs : List (Option Bool)) (ls : List Lit) → length ls ≡ n → IsTold vs ls → n ≤ count_some vs
told_short zero vs ls e t = omega arith
told_short (suc n) vs ls e t =
    let s = split_last ls n (omega arith) in
    let front : List Lit = s.0 in
    let l : Lit = s.1 in
    let told : IsTold vs (front ++ l ∷ []) = let P : List Lit → Type 0 = λ x. IsTold vs x in subst P s.2 t in
    let fresh : value_of front l.var ≡ None = snoc_last (λ f m. value_of f m.var ≡ None) front l told.fresh in
    let room : l.var < length vs = snoc_last (λ f m. m.var < length vs) front l told.within in
    let self : made_true (value_of front) l l.var ≡ Some l.positive = rw (eqb_refl l.var) refl in
    let here : get_or vs l.var None ≡ Some l.positive = told.told l.var room ∙ (value_of-push front l l.var fresh ∙ self) in
    omega (arith, told_short n (set vs l.var None) front s.3 (IsTold-pop vs front l told), count_some-set vs l.var l.positive here)
  where
    eqb_refl : (n : ℕ) → eqb n n ≡ true
    eqb_refl n = (Decides-eqb n n).1 refl

pub trail_short : (vs : List (Option Bool)) (ls : List Lit) → IsTold vs ls → length ls ≤ length vs
trail_short vs ls t = omega (arith, told_short (length ls) vs ls refl t, count_some-le vs)

-- ---- and its variables are those of the table

pub trail_within : (vs : List (Option Bool)) (ls : List Lit) → IsTold vs ls → clause_variables ls ≤ length vs
trail_within vs ls t = below ls (length vs) t.within
  where
    below : (ls : List Lit) (n : ℕ) → ((i : ℕ) (d : Lit) → i < length ls → (get_or ls i d).var < n) → clause_variables ls ≤ n
    below [] n h = omega arith
    below (m ∷ ls) n h =
        let first : m.var < n = h zero m (omega arith) in
        let rest : clause_variables ls ≤ n = below ls n (λ i d k. h (suc i) d (omega arith)) in
        omega arith
