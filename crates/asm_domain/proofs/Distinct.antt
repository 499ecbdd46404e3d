-- Lists without repeated items.
use Rattle.std.proofs.Common.{◌≡◌, ℕ, zero, suc, ◌+◌, ◌<◌, ◌≤◌, ◌⊎◌, List, [], ◌∷◌, length, map, take, slice_get, Option, Some, None, IsNone, Bool as Truth, false, refl, sym, ap, ◌∙◌, inl, inr, arith}
use Rattle.std.proofs.lemmas.Bool.{cases_lt}
use Rattle.std.proofs.lemmas.Option.{slice_get_within}
use Rattle.std.specs.Option.{option_map, is_some}
use Rattle.asm_domain.specs.Universe.{AreDistinct, IsFirstRepeat}

-- what stands in front
pub take-get : {A : Type 0} (n : ℕ) (xs : List A) (i : ℕ) → i < n → slice_get (take n xs) i ≡ slice_get xs i
take-get zero xs i lt = absurd (omega arith)
take-get (suc n) [] i lt = refl
take-get (suc n) (x ∷ xs) zero lt = refl
take-get (suc n) (x ∷ xs) (suc i) lt = take-get n xs i (omega arith)

pub take-get_past : {A : Type 0} (n : ℕ) (xs : List A) (i : ℕ) (x : A) → slice_get (take n xs) i ≡ Some x → i < n
take-get_past zero xs i x is = absurd (cc is)
take-get_past (suc n) [] i x is = absurd (cc is)
take-get_past (suc n) (y ∷ xs) zero x is = omega arith
take-get_past (suc n) (y ∷ xs) (suc i) x is = let lt = take-get_past n xs i x is in omega arith

pub distinct_none : {A : Type 0} (xs : List A) → AreDistinct (take 0 xs)
distinct_none xs = record { one_place = λ i j x e f. absurd (cc e) }

-- one more item that doesn't stand before
pub distinct_more : {A : Type 0} (xs : List A) (n : ℕ) (x : A) → AreDistinct (take n xs) → slice_get xs n ≡ Some x → ((i : ℕ) → i < n → slice_get xs i ≡ Some x → ⊥) → AreDistinct (take (n + 1) xs)
distinct_more {A = A} xs n x d at fresh = record { one_place = λ i j y e f. same i j y (take-get_past (n + 1) xs i y e) (take-get_past (n + 1) xs j y f) (sym (take-get (n + 1) xs i (take-get_past (n + 1) xs i y e)) ∙ e) (sym (take-get (n + 1) xs j (take-get_past (n + 1) xs j y f)) ∙ f) }
  where
    at_n : (i : ℕ) → i < n + 1 → (i < n) ⊎ (i ≡ n)
    at_n i lt = elim (cases_lt i n) [ inl l ↦ inl l | inr l ↦ inr (omega arith) ]

    same : (i j : ℕ) (y : A) → i < n + 1 → j < n + 1 → slice_get xs i ≡ Some y → slice_get xs j ≡ Some y → i ≡ j
    same i j y li lj e f =
        elim (at_n i li) [
          | inl l ↦ elim (at_n j lj) [
            | inl m ↦ d.one_place i j y (take-get n xs i l ∙ e) (take-get n xs j m ∙ f)
            | inr m ↦ absurd (fresh i l (e ∙ sym f ∙ ap (slice_get xs) m ∙ at))
          ]
          | inr l ↦ elim (at_n j lj) [
            | inl m ↦ absurd (fresh j m (f ∙ sym e ∙ ap (slice_get xs) l ∙ at))
            | inr m ↦ l ∙ sym m
          ]
        ]

pub distinct_all : {A : Type 0} (xs : List A) (n : ℕ) → length xs ≤ n → AreDistinct (take n xs) → AreDistinct xs
distinct_all xs n le d = record {
  one_place = λ i j x e f. let li = slice_get_within xs i x e in let lj = slice_get_within xs j x f in
      d.one_place i j x (take-get n xs i (omega arith) ∙ e) (take-get n xs j (omega arith) ∙ f);
}

-- there is one first repeat, and where there is one the items aren't distinct
pub repeat_once : {A : Type 0} (xs : List A) (m n : ℕ) → IsFirstRepeat xs m → IsFirstRepeat xs n → m ≡ n
repeat_once xs m n p q = elim (cases_lt m n) [
  | inl l ↦ absurd (not_before m n p q l)
  | inr l ↦ elim (cases_lt n m) [ inl k ↦ absurd (not_before n m q p k) | inr k ↦ omega arith ]
]
  where
    not_before : (m n : ℕ) → IsFirstRepeat xs m → IsFirstRepeat xs n → m < n → ⊥
    not_before m n p q l =
        let lt = p.is_earlier in
        let e = q.none_before.one_place p.earlier m p.item (take-get n xs p.earlier (omega arith) ∙ p.is_same) (take-get n xs m l ∙ p.is_item) in omega arith

pub repeat_not_distinct : {A : Type 0} (xs : List A) (n : ℕ) → IsFirstRepeat xs n → AreDistinct xs → ⊥
repeat_not_distinct xs n p d =
    let lt = p.is_earlier in let e = d.one_place p.earlier n p.item p.is_same p.is_item in omega arith

-- an item of a list of images is the image of an item
pub get-map : {A B : Type 0} (f : A → B) (xs : List A) (i : ℕ) → slice_get (map f xs) i ≡ option_map f (slice_get xs i)
get-map f [] i = refl
get-map f (x ∷ xs) zero = refl
get-map f (x ∷ xs) (suc i) = get-map f xs i

-- an item that stands neither before a place nor there
pub absent_more : {A : Type 0} (xs : List A) (n : ℕ) (x : A) → ((k : ℕ) → k < n → slice_get xs k ≡ Some x → ⊥) → (slice_get xs n ≡ Some x → ⊥) → (k : ℕ) → k < n + 1 → slice_get xs k ≡ Some x → ⊥
absent_more xs n x before here k lt at =
    elim (cases_lt k n) [
      | inl l ↦ before k l at
      | inr l ↦ let e : k ≡ n = omega arith in here (ap (slice_get xs) (sym e) ∙ at)
    ]

-- what `is_some` denied
pub none_from : {A : Type 0} (o : Option A) (b : Truth) → b ≡ is_some o → b ≡ false → IsNone o
none_from None b is denied = refl
none_from (Some x) b is denied = cc

-- an item that doesn't stand in front of a place
pub absent_before : {A : Type 0} (xs : List A) (n : ℕ) (x x' : A) → x' ≡ x → ((k : ℕ) → slice_get (take n xs) k ≡ Some x' → ⊥) → (k : ℕ) → k < n → slice_get xs k ≡ Some x → ⊥
absent_before xs n x x' e absent k lt at = absent k (take-get n xs k lt ∙ at ∙ ap Some (sym e))
