-- What is left of a list, and what was taken of it, one step on.
use Rattle.std.proofs.Common.{◌≡◌, ◌∙◌, ℕ, ◌+◌, ◌<◌, List, [], ◌∷◌, ◌++◌, length, get_or, take, drop, Option, Some, None, refl, sym, ap, append-nil, drop-cons, add-one}
use Rattle.std.specs.List.{flat_map}
use Rattle.std.proofs.lemmas.List.{take_more}
use Rattle.std.proofs.lemmas.List.Concat.{flat_map-append}
use Rattle.avalla_prepare.specs.Parts.{or_first}

module _ {X : Type 0} (xs : List X) (i : ℕ) (x : X) (within : i < length xs) (at : x ≡ get_or xs i x) where
  pub rest_is : drop i xs ≡ x ∷ drop (i + 1) xs
  rest_is = rw (drop-cons xs i x, add-one, sym at) refl

  pub flat_rest : {Y : Type 0} (f : X → List Y) → flat_map f (drop i xs) ≡ f x ++ flat_map f (drop (i + 1) xs)
  flat_rest f = ap (flat_map f) rest_is

  pub taken_is : take (i + 1) xs ≡ take i xs ++ x ∷ []
  taken_is = take_more xs i x within ∙ ap (λ y. take i xs ++ y ∷ []) (sym at)

  pub flat_taken : {Y : Type 0} (f : X → List Y) → flat_map f (take (i + 1) xs) ≡ flat_map f (take i xs) ++ f x
  flat_taken f = ap (flat_map f) taken_is ∙ flat_map-append f (take i xs) (x ∷ []) ∙ ap (λ ys. flat_map f (take i xs) ++ ys) (append-nil (f x))

-- the first of two lists
pub or_first_append : {A : Type 0} (o : Option A) (xs ys : List A) → or_first o (xs ++ ys) ≡ or_first (or_first o xs) ys
or_first_append (Some a) xs ys = refl
or_first_append None [] ys = refl
or_first_append None (x ∷ xs) ys = refl
