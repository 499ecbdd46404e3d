-- Fronts and places of lists.
use Rattle.std.proofs.Common.{◌≡◌, ℕ, ◌+◌, ◌<◌, suc, zero, List, [], ◌∷◌, ◌++◌, length, take, drop, slice_get, arith, sym, ◌∙◌, Some, Bool, true, false, ◌||◌, refl, ap, ◌⊎◌, inl, inr}
use Rattle.std.specs.List.{list_any, list_all}
use Rattle.cnf_base.proofs.Sound.{and_true}

pub get_take : {X : Type 0} (xs : List X) (k i : ℕ) → i < k → slice_get (take k xs) i ≡ slice_get xs i
get_take xs zero i h = absurd (omega arith)
get_take [] (suc k) i h = refl
get_take (x ∷ xs) (suc k) zero h = refl
get_take (x ∷ xs) (suc k) (suc i) h = get_take xs k i (omega arith)

pub get_short : {X : Type 0} (xs : List X) (i : ℕ) (x : X) → slice_get xs i ≡ Some x → i < length xs
get_short [] i x h = cc
get_short (y ∷ xs) zero x h = omega arith
get_short (y ∷ xs) (suc i) x h = omega (arith, get_short xs i x h)

-- an item of two lists joined
pub get_joined : {X : Type 0} (xs ys : List X) (i : ℕ) (z : X) → slice_get (xs ++ ys) i ≡ Some z
    → (slice_get xs i ≡ Some z) ⊎ ((j : ℕ) × (i ≡ length xs + j) × (slice_get ys j ≡ Some z))
get_joined [] ys i z h = inr (i, omega arith, h)
get_joined (x ∷ xs) ys zero z h = inl h
get_joined (x ∷ xs) ys (suc i) z h =
    elim (get_joined xs ys i z h) [
      | inl w ↦ inl w
      | inr w ↦ inr (w.0, omega (arith, w.1), w.2)
    ]

pub get_end : {X : Type 0} (xs : List X) (y : X) (n : ℕ) → n ≡ length xs → slice_get (xs ++ y ∷ []) n ≡ Some y
get_end [] y zero h = refl
get_end [] y (suc n) h = absurd (omega arith)
get_end (x ∷ xs) y zero h = absurd (omega arith)
get_end (x ∷ xs) y (suc n) h = get_end xs y n (omega arith)

pub length_end : {X : Type 0} (xs : List X) (y : X) → length (xs ++ y ∷ []) ≡ length xs + 1
length_end [] y = refl
length_end (x ∷ xs) y = omega (arith, length_end xs y)

-- a list is empty, or has a last item
pub last_view : {X : Type 0} (xs : List X) → (xs ≡ []) ⊎ ((front : List X) × (x : X) × (xs ≡ front ++ x ∷ []))
last_view [] = inl refl
last_view {X = X} (x ∷ xs) =
    elim (last_view xs) [
      | inl w ↦ inr ([], x, ap (λ (z : List X). x ∷ z) w)
      | inr w ↦ inr (x ∷ w.0, w.1, ap (λ (z : List X). x ∷ z) w.2)
    ]

pub any_joined : {X : Type 0} (t : X → Bool) (xs ys : List X) → list_any t (xs ++ ys) ≡ list_any t xs || list_any t ys
any_joined t [] ys = refl
any_joined t (x ∷ xs) ys = ap (λ (b : Bool). t x || b) (any_joined t xs ys) ∙ group (t x) (list_any t xs) (list_any t ys)
  where
    group : (a b c : Bool) → a || (b || c) ≡ (a || b) || c
    group true b c = refl
    group false b c = refl

pub any_get : {X : Type 0} (t : X → Bool) (xs : List X) (i : ℕ) (x : X) → slice_get xs i ≡ Some x → t x ≡ true → list_any t xs ≡ true
any_get t [] i x h k = cc
any_get {X = X} t (y ∷ xs) zero x h k = let e : y ≡ x = cc in let here : t y ≡ true = ap t e ∙ k in rw here refl
any_get t (y ∷ xs) (suc i) x h k = rw (any_get t xs i x h k) (or_true (t y))
  where
    or_true : (b : Bool) → b || true ≡ true
    or_true true = refl
    or_true false = refl

pub all_get : {X : Type 0} (t : X → Bool) (xs : List X) (i : ℕ) (x : X) → slice_get xs i ≡ Some x → list_all t xs ≡ true → t x ≡ true
all_get t [] i x h k = cc
all_get {X = X} t (y ∷ xs) zero x h k = let e : y ≡ x = cc in ap t (sym e) ∙ (and_true (t y) (list_all t xs) k).0
all_get t (y ∷ xs) (suc i) x h k = all_get t xs i x h (and_true (t y) (list_all t xs) k).1

pub or_cases : (a b : Bool) → a || b ≡ true → (a ≡ true) ⊎ (b ≡ true)
or_cases true b h = inl refl
or_cases false b h = inr h

-- the front up to an item and the item
pub take_step : {X : Type 0} (xs : List X) (i : ℕ) (x : X) → slice_get xs i ≡ Some x → take (i + 1) xs ≡ take i xs ++ x ∷ []
take_step {X = X} [] i x h = cc
take_step {X = X} (y ∷ xs) zero x h = let e : y ≡ x = cc in ap (λ (z : X). z ∷ []) e ∙ none xs x
  where
    none : (xs : List X) (x : X) → x ∷ [] ≡ x ∷ []
    none xs x = refl
take_step {X = X} (y ∷ xs) (suc i) x h =
    let e : suc (i + 1) ≡ suc i + 1 = omega arith in
    ap (λ (j : ℕ). take j (y ∷ xs)) (sym e) ∙ ap (λ (zs : List X). y ∷ zs) (take_step xs i x h)

pub split_at : {X : Type 0} (xs : List X) (i : ℕ) (x : X) → slice_get xs i ≡ Some x → xs ≡ take i xs ++ x ∷ drop (i + 1) xs
split_at {X = X} [] i x h = cc
split_at {X = X} (y ∷ xs) zero x h = let e : y ≡ x = cc in λ j. (e j) ∷ (whole xs) j
  where
    whole : (xs : List X) → xs ≡ drop 0 xs
    whole [] = refl
    whole (x ∷ xs) = refl
split_at {X = X} (y ∷ xs) (suc i) x h =
    let e : suc (i + 1) ≡ suc i + 1 = omega arith in
    ap (λ (zs : List X). y ∷ zs) (split_at xs i x h) ∙ ap (λ (j : ℕ). y ∷ (take i xs ++ x ∷ drop j (y ∷ xs))) e

pub get_drop : {X : Type 0} (xs : List X) (n : ℕ) (y : X) → drop n xs ≡ y ∷ drop (n + 1) xs → slice_get xs n ≡ Some y
get_drop [] zero y h = cc
get_drop [] (suc n) y h = cc
get_drop {X = X} (x ∷ xs) zero y h = let e : x ≡ y = cc in ap Some e
get_drop {X = X} (x ∷ xs) (suc n) y h =
    let one : suc n + 1 ≡ suc (n + 1) = omega arith in
    get_drop xs n y (h ∙ ap (λ (k : ℕ). y ∷ drop k (x ∷ xs)) one)

pub get_here : {X : Type 0} (xs : List X) (y : X) (ys : List X) (n : ℕ) → n ≡ length xs → slice_get (xs ++ y ∷ ys) n ≡ Some y
get_here [] y ys zero h = refl
get_here [] y ys (suc n) h = absurd (omega (arith, h))
get_here (x ∷ xs) y ys zero h = absurd (omega (arith, h))
get_here (x ∷ xs) y ys (suc n) h = get_here xs y ys n (omega (arith, h))
