-- What a test of some element of a list says.
use Rattle.std.proofs.Common.{◌≡◌, ℕ, List, [], ◌∷◌, ◌++◌, Bool, true, false, ◌||◌, eqb, ◌⊎◌, inl, inr, refl, sym, ◌∙◌, ap}
use Rattle.std.specs.List.{list_any}
use Rattle.std.proofs.lemmas.Bool.Decides.{Decides-eqb}

-- c is among the numbers
abbrev pub In : List ℕ → ℕ → Type 0
In [] c = ⊥
In (x ∷ xs) c = (x ≡ c) ⊎ In xs c

pub or_true : (b : Bool) → b || true ≡ true
or_true true = refl
or_true false = refl

pub or_false : (b : Bool) → b || false ≡ b
or_false true = refl
or_false false = refl

pub or_left : (a b : Bool) → a ≡ true → a || b ≡ true
or_left a b h = ap (λ x. x || b) h

pub or_right : (a b : Bool) → b ≡ true → a || b ≡ true
or_right a b h = ap (λ x. a || x) h ∙ or_true a

pub or_cases : (a b : Bool) → a || b ≡ true → (a ≡ true) ⊎ (b ≡ true)
or_cases true b h = inl refl
or_cases false b h = inr h

pub not_both : (b : Bool) → b ≡ false → b ≡ true → ⊥
not_both b n y = let wrong : false ≡ true = sym n ∙ y in cc

pub is_false : (b : Bool) → (b ≡ true → ⊥) → b ≡ false
is_false true h = absurd (h refl)
is_false false h = refl

pub both_ways : (a b : Bool) → (a ≡ true → b ≡ true) → (b ≡ true → a ≡ true) → a ≡ b
both_ways true b f g = sym (f refl)
both_ways false true f g = g refl
both_ways false false f g = refl

pub eqb_same : (m n : ℕ) → eqb m n ≡ true → m ≡ n
eqb_same m n h = (Decides-eqb m n).0 h

pub eqb_itself : (n : ℕ) → eqb n n ≡ true
eqb_itself n = (Decides-eqb n n).1 refl

pub found : (p : ℕ → Bool) (xs : List ℕ) → list_any p xs ≡ true → (c : ℕ) × (In xs c) × (p c ≡ true)
found p [] h = let wrong : false ≡ true = h in cc
found p (x ∷ xs) h =
    elim (or_cases (p x) (list_any p xs) h) [
      | inl e ↦ (x, inl refl, e)
      | inr e ↦ let r = found p xs e in (r.0, inr r.1, r.2)
    ]

pub found_by : (p : ℕ → Bool) (xs : List ℕ) (c : ℕ) → In xs c → p c ≡ true → list_any p xs ≡ true
found_by p [] c h e = absurd h
found_by p (x ∷ xs) c h e =
    elim h [
      | inl s ↦ or_left (p x) (list_any p xs) (ap p s ∙ e)
      | inr m ↦ or_right (p x) (list_any p xs) (found_by p xs c m e)
    ]

pub in_left : (xs ys : List ℕ) (c : ℕ) → In xs c → In (xs ++ ys) c
in_left [] ys c h = absurd h
in_left (x ∷ xs) ys c h = elim h [ inl s ↦ inl s | inr m ↦ inr (in_left xs ys c m) ]

pub in_right : (xs ys : List ℕ) (c : ℕ) → In ys c → In (xs ++ ys) c
in_right [] ys c h = h
in_right (x ∷ xs) ys c h = inr (in_right xs ys c h)

pub in_either : (xs ys : List ℕ) (c : ℕ) → In (xs ++ ys) c → In xs c ⊎ In ys c
in_either [] ys c h = inr h
in_either (x ∷ xs) ys c h =
    elim h [
      | inl s ↦ inl (inl s)
      | inr m ↦ elim (in_either xs ys c m) [ inl l ↦ inl (inr l) | inr r ↦ inr r ]
    ]

-- in a list with one more at its end
pub in_pushed : (xs : List ℕ) (x c : ℕ) → In (xs ++ x ∷ []) c → In xs c ⊎ (x ≡ c)
in_pushed xs x c h =
    elim (in_either xs (x ∷ []) c h) [
      | inl l ↦ inl l
      | inr r ↦ elim r [ inl s ↦ inr s | inr none ↦ absurd none ]
    ]
