-- Tuples by their places.
use Rattle.std.proofs.Common.{◌≡◌, ℕ, zero, suc, ◌+◌, ◌*◌, ◌<◌, ◌⊎◌, List, [], ◌∷◌, ◌++◌, length, map, take, slice_get, Some, refl, sym, ap, ◌∙◌, inl, inr, arith, length-append}
use Rattle.std.proofs.lemmas.List.{length-map}
use Rattle.std.proofs.lemmas.Option.{slice_get_within}
use Rattle.std.specs.List.{flat_map}
use Rattle.std.specs.Option.{option_map}
use Rattle.asm_sign.specs.Tuples.{tuples}

pub get-append_left : {A : Type 0} (xs ys : List A) (i : ℕ) → i < length xs → slice_get (xs ++ ys) i ≡ slice_get xs i
get-append_left [] ys i lt = absurd (omega arith)
get-append_left (x ∷ xs) ys zero lt = refl
get-append_left (x ∷ xs) ys (suc i) lt = get-append_left xs ys i (omega arith)

pub get-append_right : {A : Type 0} (xs ys : List A) (i : ℕ) → slice_get (xs ++ ys) (length xs + i) ≡ slice_get ys i
get-append_right [] ys i = let e : 0 + i ≡ i = omega arith in ap (slice_get ys) e
get-append_right (x ∷ xs) ys i =
    let e : length (x ∷ xs) + i ≡ suc (length xs + i) = omega arith in
    ap (slice_get (x ∷ (xs ++ ys))) e ∙ get-append_right xs ys i

pub get-map : {A B : Type 0} (f : A → B) (xs : List A) (i : ℕ) → slice_get (map f xs) i ≡ option_map f (slice_get xs i)
get-map f [] i = refl
get-map f (x ∷ xs) zero = refl
get-map f (x ∷ xs) (suc i) = get-map f xs i

-- the number of all tuples
pub length-extended : {A : Type 0} (ts : List (List A)) (xs : List A) → length (flat_map (λ x. map (λ t. x ∷ t) ts) xs) ≡ length xs * length ts
length-extended ts [] = omega arith
length-extended ts (x ∷ xs) =
    let here = length-map ts (λ t. x ∷ t) in
    let rest = length-extended ts xs in
    let both = length-append (map (λ t. x ∷ t) ts) (flat_map (λ x. map (λ t. x ∷ t) ts) xs) in omega arith

pub length-tuples : {A : Type 0} (xs : List A) (xss : List (List A)) → length (tuples (xs ∷ xss)) ≡ length xs * length (tuples xss)
length-tuples xs xss = length-extended (tuples xss) xs

-- the tuple at a place has the item at the quotient, and in front of the tuple at the rest
pub get-extended : {A : Type 0} (ts : List (List A)) (xs : List A) (r m : ℕ) (x : A) (t : List A) → slice_get xs r ≡ Some x → slice_get ts m ≡ Some t → slice_get (flat_map (λ x. map (λ t. x ∷ t) ts) xs) (r * length ts + m) ≡ Some (x ∷ t)
get-extended ts [] r m x t at_r at_m = absurd (cc at_r)
get-extended ts (y ∷ xs) zero m x t at_r at_m =
    let lt = slice_get_within ts m t at_m in
    let e = length-map ts (λ t. y ∷ t) in
    let lt' : m < length (map (λ t. y ∷ t) ts) = omega arith in
    let same : y ≡ x = cc at_r in
    let place : 0 * length ts + m ≡ m = omega arith in
    ap (slice_get (map (λ t. y ∷ t) ts ++ flat_map (λ x. map (λ t. x ∷ t) ts) xs)) place
    ∙ get-append_left (map (λ t. y ∷ t) ts) (flat_map (λ x. map (λ t. x ∷ t) ts) xs) m lt'
    ∙ get-map (λ t. y ∷ t) ts m ∙ ap (option_map (λ t. y ∷ t)) at_m ∙ ap (λ z. Some (z ∷ t)) same
get-extended ts (y ∷ xs) (suc r) m x t at_r at_m =
    let e = length-map ts (λ t. y ∷ t) in
    let place : suc r * length ts + m ≡ length (map (λ t. y ∷ t) ts) + (r * length ts + m) = omega arith in
    ap (slice_get (map (λ t. y ∷ t) ts ++ flat_map (λ x. map (λ t. x ∷ t) ts) xs)) place
    ∙ get-append_right (map (λ t. y ∷ t) ts) (flat_map (λ x. map (λ t. x ∷ t) ts) xs) (r * length ts + m)
    ∙ get-extended ts xs r m x t at_r at_m

-- where an item of two lists in a row stands
pub in_append : {A : Type 0} (xs ys : List A) (i : ℕ) (v : A) → slice_get (xs ++ ys) i ≡ Some v → (slice_get xs i ≡ Some v) ⊎ ((j : ℕ) × (i ≡ length xs + j) × (slice_get ys j ≡ Some v))
in_append [] ys i v at = inr (i, omega arith, at)
in_append (x ∷ xs) ys zero v at = inl at
in_append (x ∷ xs) ys (suc i) v at = elim (in_append xs ys i v at) [ inl is ↦ inl is | inr is ↦ let e = is.1 in inr (is.0, omega arith, is.2) ]

-- an item that is an image
pub in_map : {A B : Type 0} (f : A → B) (xs : List A) (i : ℕ) (v : B) → slice_get (map f xs) i ≡ Some v → (x : A) × (slice_get xs i ≡ Some x) × (f x ≡ v)
in_map f [] i v at = absurd (cc at)
in_map f (x ∷ xs) zero v at = (x, refl, cc at)
in_map f (x ∷ xs) (suc i) v at = in_map f xs i v at

-- an item of lists in a row, and where it stands
pub record StandsIn {A B : Type 0} (f : A → List B) (xs : List A) (i : ℕ) (v : B) : Type 0 where
  pub part : ℕ
  pub from : A
  pub place : ℕ
  pub part_is : slice_get xs part ≡ Some from
  pub item_is : slice_get (f from) place ≡ Some v
  pub place_is : i ≡ length (flat_map f (take part xs)) + place

pub in_flat_map : {A B : Type 0} (f : A → List B) (xs : List A) (i : ℕ) (v : B) → slice_get (flat_map f xs) i ≡ Some v → StandsIn f xs i v
in_flat_map f [] i v at = absurd (cc at)
in_flat_map f (x ∷ xs) i v at =
    elim (in_append (f x) (flat_map f xs) i v at) [
      | inl is ↦ record { part = 0; from = x; place = i; part_is = refl; item_is = is; place_is = omega arith }
      | inr is ↦
          let later = in_flat_map f xs is.0 v is.2 in
          let e = is.1 in
          let e' = later.place_is in
          let both = length-append (f x) (flat_map f (take later.part xs)) in
          record { part = suc later.part; from = later.from; place = later.place; part_is = later.part_is; item_is = later.item_is; place_is = omega arith }
    ]

pub get-flat_map : {A B : Type 0} (f : A → List B) (xs : List A) (k j : ℕ) (x : A) (v : B) → slice_get xs k ≡ Some x → slice_get (f x) j ≡ Some v → slice_get (flat_map f xs) (length (flat_map f (take k xs)) + j) ≡ Some v
get-flat_map f [] k j x v at_k at_j = absurd (cc at_k)
get-flat_map f (y ∷ xs) zero j x v at_k at_j =
    let same : y ≡ x = cc at_k in
    let at : slice_get (f y) j ≡ Some v = ap (λ z. slice_get (f z) j) same ∙ at_j in
    let lt = slice_get_within (f y) j v at in
    let place : 0 + j ≡ j = omega arith in
    ap (slice_get (f y ++ flat_map f xs)) place ∙ get-append_left (f y) (flat_map f xs) j lt ∙ at
get-flat_map f (y ∷ xs) (suc k) j x v at_k at_j =
    let both = length-append (f y) (flat_map f (take k xs)) in
    let place : length (f y ++ flat_map f (take k xs)) + j ≡ length (f y) + (length (flat_map f (take k xs)) + j) = omega arith in
    ap (slice_get (f y ++ flat_map f xs)) place ∙ get-append_right (f y) (flat_map f xs) (length (flat_map f (take k xs)) + j) ∙ get-flat_map f xs k j x v at_k at_j

-- a tuple's first item and the others, and where they stand
pub record Splits {A : Type 0} (xs : List A) (xss : List (List A)) (i : ℕ) (u : List A) : Type 0 where
  pub rank : ℕ
  pub rest : ℕ
  pub item : A
  pub others : List A
  pub item_is : slice_get xs rank ≡ Some item
  pub others_are : slice_get (tuples xss) rest ≡ Some others
  pub tuple_is : u ≡ item ∷ others
  pub place_is : i ≡ rank * length (tuples xss) + rest

in_extended : {A : Type 0} (xss : List (List A)) (xs : List A) (i : ℕ) (u : List A) → slice_get (flat_map (λ x. map (λ t. x ∷ t) (tuples xss)) xs) i ≡ Some u → Splits xs xss i u
in_extended xss [] i u at = absurd (cc at)
in_extended xss (x ∷ xs) i u at =
    elim (in_append (map (λ t. x ∷ t) (tuples xss)) (flat_map (λ x. map (λ t. x ∷ t) (tuples xss)) xs) i u at) [
      | inl is ↦ let t = in_map (λ t. x ∷ t) (tuples xss) i u is in record { rank = 0; rest = i; item = x; others = t.0; item_is = refl; others_are = t.1; tuple_is = sym t.2; place_is = omega arith }
      | inr is ↦
          let later = in_extended xss xs is.0 u is.2 in
          let e = is.1 in
          let e' = later.place_is in
          let n = length-map (tuples xss) (λ t. x ∷ t) in
          record { rank = suc later.rank; rest = later.rest; item = later.item; others = later.others; item_is = later.item_is; others_are = later.others_are; tuple_is = later.tuple_is; place_is = omega arith }
    ]

pub in_tuples : {A : Type 0} (xs : List A) (xss : List (List A)) (i : ℕ) (u : List A) → slice_get (tuples (xs ∷ xss)) i ≡ Some u → Splits xs xss i u
in_tuples xs xss i u at = in_extended xss xs i u at
