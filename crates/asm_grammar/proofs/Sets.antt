-- Finite sets of kinds, as lists.
use Rattle.std.proofs.Common.{◌≡◌, ℕ, ◌==◌, Bool, true, false, not, ◌&&◌, ◌||◌, List, [], ◌∷◌, ◌++◌, refl, sym, ◌⊎◌, inl, inr, subst}
use Rattle.std.proofs.lemmas.Bool.{eqb-true}
use Rattle.asm_grammar.specs.Grammar.{has}

pub and_left : (a b : Bool) → (a && b) ≡ true → a ≡ true
and_left true b h = refl
and_left false b h = h

pub and_right : (a b : Bool) → (a && b) ≡ true → b ≡ true
and_right true b h = h
and_right false b h = absurd (cc)

pub not_true : (a : Bool) → not a ≡ true → a ≡ false
not_true true h = absurd (cc)
not_true false h = refl

pub or_left : (a b : Bool) → (a || b) ≡ false → a ≡ false
or_left true b h = h
or_left false b h = refl

pub or_right : (a b : Bool) → (a || b) ≡ false → b ≡ false
or_right true b h = absurd (cc)
or_right false b h = h

pub or_false : (a b : Bool) → a ≡ false → b ≡ false → (a || b) ≡ false
or_false true b h i = absurd (cc)
or_false false b h i = i

pub or_true : (a b : Bool) → (a || b) ≡ true → (a ≡ true) ⊎ (b ≡ true)
or_true true b h = inl refl
or_true false b h = inr h

pub or_made_left : (a b : Bool) → a ≡ true → (a || b) ≡ true
or_made_left true b h = refl
or_made_left false b h = absurd (cc)

pub or_made_right : (a b : Bool) → b ≡ true → (a || b) ≡ true
or_made_right true b h = refl
or_made_right false b h = h

pub has-append_left : (k : ℕ) (xs ys : List ℕ) → has k xs ≡ true → has k (xs ++ ys) ≡ true
has-append_left k [] ys h = absurd (cc)
has-append_left k (x ∷ xs) ys h = elim (or_true (k == x) (has k xs) h) [ inl e ↦ or_made_left (k == x) _ e | inr e ↦ or_made_right (k == x) _ (has-append_left k xs ys e) ]

pub has-append_right : (k : ℕ) (xs ys : List ℕ) → has k ys ≡ true → has k (xs ++ ys) ≡ true
has-append_right k [] ys h = h
has-append_right k (x ∷ xs) ys h = or_made_right (k == x) _ (has-append_right k xs ys h)

pub none_left : (k : ℕ) (xs ys : List ℕ) → has k (xs ++ ys) ≡ false → has k xs ≡ false
none_left k [] ys h = refl
none_left k (x ∷ xs) ys h = or_false (k == x) (has k xs) (or_left (k == x) (has k (xs ++ ys)) h) (none_left k xs ys (or_right (k == x) (has k (xs ++ ys)) h))

pub none_right : (k : ℕ) (xs ys : List ℕ) → has k (xs ++ ys) ≡ false → has k ys ≡ false
none_right k [] ys h = h
none_right k (x ∷ xs) ys h = none_right k xs ys (or_right (k == x) (has k (xs ++ ys)) h)

abbrev pub disjoint : List ℕ → List ℕ → Bool
disjoint [] ys = true
disjoint (x ∷ xs) ys = not (has x ys) && disjoint xs ys

abbrev pub subset : List ℕ → List ℕ → Bool
subset [] ys = true
subset (x ∷ xs) ys = has x ys && subset xs ys

pub apart : (k : ℕ) (xs ys : List ℕ) → disjoint xs ys ≡ true → has k xs ≡ true → has k ys ≡ false
apart k [] ys d h = absurd (cc)
apart k (x ∷ xs) ys d h = elim (or_true (k == x) (has k xs) h) [
  | inl e ↦ subst (λ (i : ℕ). has i ys ≡ false) (sym (eqb-true k x e)) (not_true _ (and_left _ (disjoint xs ys) d))
  | inr e ↦ apart k xs ys (and_right (not (has x ys)) _ d) e
]

pub held : (k : ℕ) (xs ys : List ℕ) → subset xs ys ≡ true → has k xs ≡ true → has k ys ≡ true
held k [] ys d h = absurd (cc)
held k (x ∷ xs) ys d h = elim (or_true (k == x) (has k xs) h) [
  | inl e ↦ subst (λ (i : ℕ). has i ys ≡ true) (sym (eqb-true k x e)) (and_left _ (subset xs ys) d)
  | inr e ↦ held k xs ys (and_right (has x ys) _ d) e
]

pub true_or_false : (a : Bool) → (a ≡ true) ⊎ (a ≡ false)
true_or_false true = inl refl
true_or_false false = inr refl

pub not_held : (k : ℕ) (xs ys : List ℕ) → subset xs ys ≡ true → has k ys ≡ false → has k xs ≡ false
not_held k xs ys d h = elim (true_or_false (has k xs)) [ inl e ↦ (let f : has k ys ≡ true = held k xs ys d e in absurd (cc)) | inr e ↦ e ]
