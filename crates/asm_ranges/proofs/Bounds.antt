-- The bounds of what operators give.
use Rattle.std.proofs.Common.{[], ◌≡◌, ℕ, ◌^◌, ◌<◌, ◌↔◌, ℤ, pos, neg_ℤ, ◌≤ℤ◌, ◌+ℤ◌, ◌-ℤ◌, ◌*ℤ◌, unsigned_abs, max, Bool as Truth, true, false, ◌||◌, if◌then◌else◌, Result, Ok, Err, IfOk, IsErr, refl, sym, subst, inl, inr, arith}
use Rattle.std.specs.Prelude.{int_le}
use Rattle.std.specs.Int.{int_min, int_max}
use Rattle.std.proofs.Math.IntN.{*ℤ_comm}
use Rattle.std.proofs.lemmas.Int.{ints, clamps, by_lt_z}
use Rattle.std.proofs.lemmas.Bool.Decides.{nat_tests}
use Rattle.asm_domain.specs.declared.interval.Interval.{Interval}
use Rattle.asm_domain.specs.declared.interval.RangeTooWide.{RangeTooWide}
use Rattle.asm_domain.specs.Interval.{Spans, HasWide, IsResult, IsResultOfOne, HasSizeIn, IsWithin}
use Rattle.asm_domain.proofs.Spanning.{AreBounds, wide_between, low_of, high_of, sums, differences, lesser, greater, opposites}
use Rattle.asm_domain.proofs.Products.{multiples_up, multiples_down}
use Rattle.asm_domain.proofs.Sizes.{sizes, size_above, size_below, size_across}
use Rattle.asm_sign.specs.Vocabulary.{Vocabulary}
use Rattle.asm_faults.specs.At.{Name}
use Rattle.asm_faults.specs.Ranges.{Spread, unless_refused, refused, is_refused, Between, is_wide, opposite, absolute}
use Rattle.asm_faults.specs.Ranges.{sizes as code_sizes}
use Rattle.asm_ranges.specs.declared.spread.Arithmetic.TheVariants.{Plus, Minus, Times, Min, Max}
use Rattle.asm_ranges.specs.Spreads.{HasEnds, ends}

wide_test : (z : ℤ) → 2 ^ 62 < unsigned_abs z → is_wide z ≡ true
wide_test z h = grind (arith, nat_tests)

narrow_test : (z : ℤ) → is_wide z ≡ true → 2 ^ 62 < unsigned_abs z
narrow_test z h = grind (arith, nat_tests)

or_false : (a b : Truth) → (a ≡ true → ⊥) → (b ≡ true → ⊥) → (a || b) ≡ false
or_false true b f g = absurd (f refl)
or_false false true f g = absurd (g refl)
or_false false false f g = refl

or_left : (a b : Truth) → a ≡ true → (a || b) ≡ true
or_left a b e = rw e refl

or_right : (a b : Truth) → b ≡ true → (a || b) ≡ true
or_right true b e = refl
or_right false b e = e

-- an interval that spans numbers with these bounds has them, and is refused exactly where one of them is wide
pub has_ends : (numbers : ℤ → Type 0) (l h : ℤ) (r : Result Interval RangeTooWide) → AreBounds numbers l h → IfOk r (Spans numbers) → (IsErr r ↔ HasWide numbers) → HasEnds r (Between l h)
has_ends numbers l h (Ok i) are spans refused =
    let low = are.between i.low spans.least in
    let high = are.between i.high spans.greatest in
    let low' = spans.holds_all l are.least in
    let high' = spans.holds_all h are.greatest in
    let e : i.low ≡ l = same_ends i.low l low.0 low'.from in
    let f : i.high ≡ h = same_ends i.high h high'.to high.1 in (
      λ k. Between (e k) (f k),
      or_false (is_wide l) (is_wide h)
          (λ wide. absurd (cc (refused.1 record { number = l; is_among = are.least; is_wide = narrow_test l wide })))
          (λ wide. absurd (cc (refused.1 record { number = h; is_among = are.greatest; is_wide = narrow_test h wide }))),
    )
  where
    same_ends : (a b : ℤ) → b ≤ℤ a → a ≤ℤ b → a ≡ b
    same_ends a b le ge = omega (arith, ints)
has_ends numbers l h (Err e) are spans refused =
    let w = refused.0 refl in
    let is = are.between w.number w.is_among in
    elim (wide_between (2 ^ 62) l w.number h is.0 is.1 w.is_wide) [
      | inl over ↦ or_left (is_wide l) (is_wide h) (wide_test l over)
      | inr over ↦ or_right (is_wide l) (is_wide h) (wide_test h over)
    ]

-- a number of 32 bits isn't refused
pub narrow_number : (n : ℕ) → n < 2 ^ 32 → is_refused (Between (pos n) (pos n)) ≡ false
narrow_number n h = or_false (is_wide (pos n)) (is_wide (pos n)) (λ wide. let w = narrow_test (pos n) wide in over n h w) (λ wide. let w = narrow_test (pos n) wide in over n h w)
  where
    over : (n : ℕ) → n < 2 ^ 32 → 2 ^ 62 < n → ⊥
    over n h w = omega arith

pub kept : (r : Spread) → is_refused r ≡ false → r ≡ unless_refused r
kept r e = rw e refl

pub not_refused : (v : Vocabulary) (n : ℕ) (r : Spread) (at : ℕ) (first : Name) → is_refused r ≡ false → refused v n r at first ≡ []
not_refused v n r at first e = rw e refl

-- ---- products

one_of_two : (P : ℤ → Type 0) (x y : ℤ) → P x → P y → P (int_min x y) × P (int_max x y)
one_of_two P x y p q =
    by_lt_z y x
    (λ lt. let e : y ≡ int_min x y = omega (arith, ints, clamps) in let f : x ≡ int_max x y = omega (arith, ints, clamps) in (subst P e q, subst P f p))
    (λ le. let e : x ≡ int_min x y = omega (arith, ints, clamps) in let f : y ≡ int_max x y = omega (arith, ints, clamps) in (subst P e p, subst P f q))

least_of_four : (P : ℤ → Type 0) (w x y z : ℤ) → P w → P x → P y → P z → P (int_min (int_min w x) (int_min y z))
least_of_four P w x y z p q r s = (one_of_two P (int_min w x) (int_min y z) (one_of_two P w x p q).0 (one_of_two P y z r s).0).0

greatest_of_four : (P : ℤ → Type 0) (w x y z : ℤ) → P w → P x → P y → P z → P (int_max (int_max w x) (int_max y z))
greatest_of_four P w x y z p q r s = (one_of_two P (int_max w x) (int_max y z) (one_of_two P w x p q).1 (one_of_two P y z r s).1).1

multiple : (j : Interval) (k y : ℤ) → IsWithin j y → (int_min (k *ℤ j.low) (k *ℤ j.high) ≤ℤ (k *ℤ y)) × ((k *ℤ y) ≤ℤ int_max (k *ℤ j.low) (k *ℤ j.high))
multiple j k y at =
    by_lt_z k (pos 0)
    (λ lt. let are = (multiples_down j k lt).between (k *ℤ y) (y, at, refl) in let from = are.0 in let to = are.1 in (omega (arith, ints, clamps), omega (arith, ints, clamps)))
    (λ le. let are = (multiples_up j k le).between (k *ℤ y) (y, at, refl) in let from = are.0 in let to = are.1 in (omega (arith, ints, clamps), omega (arith, ints, clamps)))

-- the same with the factor behind
multiple_of : (i : Interval) (x k : ℤ) → IsWithin i x → (int_min (i.low *ℤ k) (i.high *ℤ k) ≤ℤ (x *ℤ k)) × ((x *ℤ k) ≤ℤ int_max (i.low *ℤ k) (i.high *ℤ k))
multiple_of i x k at = rw (*ℤ_comm i.low k, *ℤ_comm i.high k, *ℤ_comm x k) (multiple i k x at)

-- between two numbers that stand between others
nested : (p q t l1 h1 l2 h2 : ℤ) → (int_min p q ≤ℤ t) × (t ≤ℤ int_max p q) → (l1 ≤ℤ p) × (p ≤ℤ h1) → (l2 ≤ℤ q) × (q ≤ℤ h2) → (int_min l1 l2 ≤ℤ t) × (t ≤ℤ int_max h1 h2)
nested p q t l1 h1 l2 h2 is at_p at_q =
    let a = is.0 in let b = is.1 in let c = at_p.0 in let d = at_p.1 in let e = at_q.0 in let f = at_q.1 in (omega (arith, ints, clamps), omega (arith, ints, clamps))

module _ (i j : Interval) where
  ends_product : (x y : ℤ) → IsWithin i x → IsWithin j y → IsResult ◌*ℤ◌ i j (x *ℤ y)
  ends_product x y is is' = (x, y, is, is', refl)

  -- a product stands between the products of the ends
  pub products : AreBounds (IsResult ◌*ℤ◌ i j)
      (int_min (int_min (i.low *ℤ j.low) (i.low *ℤ j.high)) (int_min (i.high *ℤ j.low) (i.high *ℤ j.high)))
      (int_max (int_max (i.low *ℤ j.low) (i.low *ℤ j.high)) (int_max (i.high *ℤ j.low) (i.high *ℤ j.high)))
  products = record {
    least = least_of_four (IsResult ◌*ℤ◌ i j) _ _ _ _ (ends_product i.low j.low (low_of i) (low_of j)) (ends_product i.low j.high (low_of i) (high_of j)) (ends_product i.high j.low (high_of i) (low_of j)) (ends_product i.high j.high (high_of i) (high_of j));
    greatest = greatest_of_four (IsResult ◌*ℤ◌ i j) _ _ _ _ (ends_product i.low j.low (low_of i) (low_of j)) (ends_product i.low j.high (low_of i) (high_of j)) (ends_product i.high j.low (high_of i) (low_of j)) (ends_product i.high j.high (high_of i) (high_of j));
    between = λ z is. rw (sym is.4) (between_products is.0 is.1 is.2 is.3);
  }
    where
      between_products : (x y : ℤ) → IsWithin i x → IsWithin j y
          → (int_min (int_min (i.low *ℤ j.low) (i.low *ℤ j.high)) (int_min (i.high *ℤ j.low) (i.high *ℤ j.high)) ≤ℤ (x *ℤ y))
          × ((x *ℤ y) ≤ℤ int_max (int_max (i.low *ℤ j.low) (i.low *ℤ j.high)) (int_max (i.high *ℤ j.low) (i.high *ℤ j.high)))
      between_products x y at_x at_y = nested (i.low *ℤ y) (i.high *ℤ y) (x *ℤ y) _ _ _ _ (multiple_of i x y at_x) (multiple j i.low y at_y) (multiple j i.high y at_y)

-- ---- each operator

module _ (i j : Interval) (r : Result Interval RangeTooWide) where
  pub of_sum : IfOk r (Spans (IsResult ◌+ℤ◌ i j)) → (IsErr r ↔ HasWide (IsResult ◌+ℤ◌ i j)) → HasEnds r (ends Plus i.low i.high j.low j.high)
  of_sum = has_ends _ _ _ r (sums i j)

  pub of_difference : IfOk r (Spans (IsResult ◌-ℤ◌ i j)) → (IsErr r ↔ HasWide (IsResult ◌-ℤ◌ i j)) → HasEnds r (ends Minus i.low i.high j.low j.high)
  of_difference = has_ends _ _ _ r (differences i j)

  pub of_product : IfOk r (Spans (IsResult ◌*ℤ◌ i j)) → (IsErr r ↔ HasWide (IsResult ◌*ℤ◌ i j)) → HasEnds r (ends Times i.low i.high j.low j.high)
  of_product = has_ends _ _ _ r (products i j)

  pub of_least : IfOk r (Spans (IsResult int_min i j)) → (IsErr r ↔ HasWide (IsResult int_min i j)) → HasEnds r (ends Min i.low i.high j.low j.high)
  of_least = has_ends _ _ _ r (lesser i j)

  pub of_greatest : IfOk r (Spans (IsResult int_max i j)) → (IsErr r ↔ HasWide (IsResult int_max i j)) → HasEnds r (ends Max i.low i.high j.low j.high)
  of_greatest = has_ends _ _ _ r (greater i j)

module _ (i : Interval) (r : Result Interval RangeTooWide) where
  pub of_sizes : IfOk r (Spans (HasSizeIn i)) → (IsErr r ↔ HasWide (HasSizeIn i)) → HasEnds r (code_sizes (Between i.low i.high))
  of_sizes = has_ends _ _ _ r (sizes i)

  pub of_opposite : IfOk r (Spans (IsResultOfOne neg_ℤ i)) → (IsErr r ↔ HasWide (IsResultOfOne neg_ℤ i)) → HasEnds r (opposite (Between i.low i.high))
  of_opposite = has_ends _ _ _ r (opposites i)

  -- the tests of the bounds' signs, whichever way they go
  pub of_absolute : IfOk r (Spans (IsResultOfOne (λ x. pos (unsigned_abs x)) i)) → (IsErr r ↔ HasWide (IsResultOfOne (λ x. pos (unsigned_abs x)) i)) → HasEnds r (absolute (Between i.low i.high))
  of_absolute spans refused =
      by_tests (int_le (pos 0) i.low) (int_le i.high (pos 0)) refl refl
    where
      by_tests : (s t : Truth) → int_le (pos 0) i.low ≡ s → int_le i.high (pos 0) ≡ t
          → HasEnds r (if s then Between i.low i.high else (if t then Between (neg_ℤ i.high) (neg_ℤ i.low) else Between (pos 0) (pos (max (unsigned_abs i.low) (unsigned_abs i.high)))))
      by_tests true t is is' = has_ends _ _ _ r (size_above i (grind (arith, ints))) spans refused
      by_tests false true is is' = has_ends _ _ _ r (size_below i (grind (arith, ints))) spans refused
      by_tests false false is is' = has_ends _ _ _ r (size_across i (grind (arith, ints)) (grind (arith, ints))) spans refused
