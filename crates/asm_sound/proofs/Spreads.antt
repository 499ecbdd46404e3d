-- Intervals by their bounds, and the ranges that they are.
use Rattle.std.proofs.Common.{◌≡◌, ℕ, ◌^◌, inl, inr, ℤ, pos, neg_ℤ, ◌+ℤ◌, ◌-ℤ◌, ◌*ℤ◌, ◌≤ℤ◌, unsigned_abs, max, Bool as Truth, true, false, true≢false, ◌||◌, if◌then◌else◌, refl, sym, ap, subst, arith}
use Rattle.std.specs.Prelude.{int_le}
use Rattle.std.specs.Int.{int_min, int_max}
use Rattle.std.proofs.Math.IntN.{*ℤ_comm}
use Rattle.std.proofs.lemmas.Int.{ints, clamps, by_lt_z}
use Rattle.std.proofs.lemmas.Bool.{ltb-false}
use Rattle.asm_domain.specs.declared.interval.Interval.{Interval}
use Rattle.asm_domain.specs.Interval.{IsWithin, IsResult}
use Rattle.asm_domain.specs.Narrow.{IsNarrow}
use Rattle.asm_domain.proofs.Spanning.{AreBounds, low_of, high_of, sums, differences, lesser, greater, both, opposites}
use Rattle.asm_domain.proofs.Products.{multiples_up, multiples_down}
use Rattle.asm_domain.proofs.Sizes as sized
use Rattle.asm_domain.proofs.Sizes.{size_above, size_below, size_across}
use Rattle.asm_node.specs.Ranges.{Range, NoNumber, From, Numbers, IsRangeOf, IsNarrowRange, results, results_of_one, sizes, numbers_in_either, of_one, of_two}
use Rattle.asm_tree.specs.declared.operator.Op.{Op}
use Rattle.asm_tree.specs.declared.operator.Op.TheVariants as op
use Rattle.asm_tree.specs.declared.operator.UnaryOp.{UnaryOp}
use Rattle.asm_tree.specs.declared.operator.UnaryOp.TheVariants as unary
use Rattle.asm_sign.specs.Vocabulary.{Vocabulary}
use Rattle.asm_faults.specs.At.{Name}
use Rattle.asm_faults.specs.Model.{op_of, unary_of}
use Rattle.asm_faults.specs.Ranges as spread
use Rattle.asm_faults.specs.Ranges.{Spread, Between, Missing, of_both, is_wide, is_refused, unless_refused, either}

-- the bounds of a range
abbrev pub spread_of : Range → Spread
spread_of NoNumber = spread.NoNumber
spread_of (From i) = Between i.low i.high

-- an interval that is refused nowhere is the range of some numbers
abbrev pub Answer : Numbers → Spread → Type 0
Answer numbers s = (r : Range) × (spread_of r ≡ s) × IsRangeOf numbers r × IsNarrowRange r

-- ---- bounds

narrow : (z : ℤ) → is_wide z ≡ false → IsNarrow z
narrow z e = ltb-false (2 ^ 62) (unsigned_abs z) e

neither : (a b : Truth) → (a || b) ≡ false → (a ≡ false) × (b ≡ false)
neither true b e = absurd (true≢false e)
neither false b e = (refl, e)

pub spanning : (numbers : Numbers) (l h : ℤ) → AreBounds numbers l h → (r : Range) × (spread_of r ≡ Between l h) × IsRangeOf numbers r
spanning numbers l h are = (
  From (record { low = l; high = h; ordered = (are.between h are.greatest).0 }),
  refl,
  record { holds_all = λ z is. record { from = (are.between z is).0; to = (are.between z is).1 }; least = are.least; greatest = are.greatest },
)

pub bounded : (numbers : Numbers) (l h : ℤ) → AreBounds numbers l h → is_refused (Between l h) ≡ false → Answer numbers (Between l h)
bounded numbers l h are e =
    let fine = neither (is_wide l) (is_wide h) e in (
      From (record { low = l; high = h; ordered = (are.between h are.greatest).0 }),
      refl,
      record { holds_all = λ z is. record { from = (are.between z is).0; to = (are.between z is).1 }; least = are.least; greatest = are.greatest },
      (narrow l fine.0, narrow h fine.1),
    )

nothing : (numbers : Numbers) → ((z : ℤ) → numbers z → ⊥) → Answer numbers spread.NoNumber
nothing numbers none = (NoNumber, refl, none, tt)

-- what isn't refused stays
pub unless_same : (s : Spread) → is_refused s ≡ false → unless_refused s ≡ s
unless_same s e = ap (λ (b : Truth). if b then Missing else s) e

-- ---- products

one_of_two : (P : ℤ → Type 0) (x y : ℤ) → P x → P y → P (int_min x y) × P (int_max x y)
one_of_two P x y p q =
    by_lt_z y x
    (λ lt. let e : y ≡ int_min x y = omega (arith, ints, clamps) in let f : x ≡ int_max x y = omega (arith, ints, clamps) in (subst P e q, subst P f p))
    (λ le. let e : x ≡ int_min x y = omega (arith, ints, clamps) in let f : y ≡ int_max x y = omega (arith, ints, clamps) in (subst P e p, subst P f q))

pub least_of_two : (P : ℤ → Type 0) (x y : ℤ) → P x → P y → P (int_min x y)
least_of_two P x y p q = (one_of_two P x y p q).0

pub greatest_of_two : (P : ℤ → Type 0) (x y : ℤ) → P x → P y → P (int_max x y)
greatest_of_two P x y p q = (one_of_two P x y p q).1

least_of_four : (P : ℤ → Type 0) (w x y z : ℤ) → P w → P x → P y → P z → P (int_min (int_min w x) (int_min y z))
least_of_four P w x y z p q r s = (one_of_two P (int_min w x) (int_min y z) (one_of_two P w x p q).0 (one_of_two P y z r s).0).0

greatest_of_four : (P : ℤ → Type 0) (w x y z : ℤ) → P w → P x → P y → P z → P (int_max (int_max w x) (int_max y z))
greatest_of_four P w x y z p q r s = (one_of_two P (int_max w x) (int_max y z) (one_of_two P w x p q).1 (one_of_two P y z r s).1).1

multiple : (j : Interval) (k y : ℤ) → IsWithin j y → (int_min (k *ℤ j.low) (k *ℤ j.high) ≤ℤ (k *ℤ y)) × ((k *ℤ y) ≤ℤ int_max (k *ℤ j.low) (k *ℤ j.high))
multiple j k y at =
    by_lt_z k (pos 0)
    (λ lt. let are = (multiples_down j k lt).between (k *ℤ y) (y, at, refl) in let from = are.0 in let to = are.1 in (omega (arith, ints, clamps), omega (arith, ints, clamps)))
    (λ le. let are = (multiples_up j k le).between (k *ℤ y) (y, at, refl) in let from = are.0 in let to = are.1 in (omega (arith, ints, clamps), omega (arith, ints, clamps)))

-- the same with the factor behind
multiple_of : (i : Interval) (x k : ℤ) → IsWithin i x → (int_min (i.low *ℤ k) (i.high *ℤ k) ≤ℤ (x *ℤ k)) × ((x *ℤ k) ≤ℤ int_max (i.low *ℤ k) (i.high *ℤ k))
multiple_of i x k at = rw (*ℤ_comm i.low k, *ℤ_comm i.high k, *ℤ_comm x k) (multiple i k x at)

-- between two numbers that stand between others
nested : (p q t l1 h1 l2 h2 : ℤ) → (int_min p q ≤ℤ t) × (t ≤ℤ int_max p q) → (l1 ≤ℤ p) × (p ≤ℤ h1) → (l2 ≤ℤ q) × (q ≤ℤ h2) → (int_min l1 l2 ≤ℤ t) × (t ≤ℤ int_max h1 h2)
nested p q t l1 h1 l2 h2 is at_p at_q =
    let a = is.0 in let b = is.1 in let c = at_p.0 in let d = at_p.1 in let e = at_q.0 in let f = at_q.1 in (omega (arith, ints, clamps), omega (arith, ints, clamps))

module _ (i j : Interval) where
  ends_product : (x y : ℤ) → IsWithin i x → IsWithin j y → IsResult ◌*ℤ◌ i j (x *ℤ y)
  ends_product x y is is' = (x, y, is, is', refl)

  -- a product stands between the products of the ends
  products : AreBounds (IsResult ◌*ℤ◌ i j)
      (int_min (int_min (i.low *ℤ j.low) (i.low *ℤ j.high)) (int_min (i.high *ℤ j.low) (i.high *ℤ j.high)))
      (int_max (int_max (i.low *ℤ j.low) (i.low *ℤ j.high)) (int_max (i.high *ℤ j.low) (i.high *ℤ j.high)))
  products = record {
    least = least_of_four (IsResult ◌*ℤ◌ i j) _ _ _ _ (ends_product i.low j.low (low_of i) (low_of j)) (ends_product i.low j.high (low_of i) (high_of j)) (ends_product i.high j.low (high_of i) (low_of j)) (ends_product i.high j.high (high_of i) (high_of j));
    greatest = greatest_of_four (IsResult ◌*ℤ◌ i j) _ _ _ _ (ends_product i.low j.low (low_of i) (low_of j)) (ends_product i.low j.high (low_of i) (high_of j)) (ends_product i.high j.low (high_of i) (low_of j)) (ends_product i.high j.high (high_of i) (high_of j));
    between = λ z is. rw (sym is.4) (between_products is.0 is.1 is.2 is.3);
  }
    where
      between_products : (x y : ℤ) → IsWithin i x → IsWithin j y
          → (int_min (int_min (i.low *ℤ j.low) (i.low *ℤ j.high)) (int_min (i.high *ℤ j.low) (i.high *ℤ j.high)) ≤ℤ (x *ℤ y))
          × ((x *ℤ y) ≤ℤ int_max (int_max (i.low *ℤ j.low) (i.low *ℤ j.high)) (int_max (i.high *ℤ j.low) (i.high *ℤ j.high)))
      between_products x y at_x at_y = nested (i.low *ℤ y) (i.high *ℤ y) (x *ℤ y) _ _ _ _ (multiple_of i x y at_x) (multiple j i.low y at_y) (multiple j i.high y at_y)

-- ---- operators

-- an operation on two intervals, where one of them may have no number
of_results : (f : ℤ → ℤ → ℤ) (g : ℤ → ℤ → ℤ → ℤ → Spread)
    → ((i j : Interval) → is_refused (g i.low i.high j.low j.high) ≡ false → Answer (results f (From i) (From j)) (g i.low i.high j.low j.high))
    → (r s : Range) → is_refused (of_both g (spread_of r) (spread_of s)) ≡ false → Answer (results f r s) (of_both g (spread_of r) (spread_of s))
of_results f g h NoNumber NoNumber e = nothing (results f NoNumber NoNumber) (λ z is. is.2)
of_results f g h NoNumber (From j) e = nothing (results f NoNumber (From j)) (λ z is. is.2)
of_results f g h (From i) NoNumber e = nothing (results f (From i) NoNumber) (λ z is. is.3)
of_results f g h (From i) (From j) e = h i j e

of_sizes : (r : Range) → is_refused (spread.sizes (spread_of r)) ≡ false → Answer (sizes r) (spread.sizes (spread_of r))
of_sizes NoNumber e = nothing (sizes NoNumber) (λ z is. is.1)
of_sizes (From i) e = bounded (sizes (From i)) (neg_ℤ (pos (max (unsigned_abs i.low) (unsigned_abs i.high)))) (pos (max (unsigned_abs i.low) (unsigned_abs i.high))) (sized.sizes i) e

abbrev across : Interval → Spread
across i = Between (pos 0) (pos (max (unsigned_abs i.low) (unsigned_abs i.high)))

module _ (number : Name → ℕ) (v : Vocabulary) where
  -- what an operator gives of two ranges
  pub two_ranged : (o : Op) (r s : Range) → is_refused (spread.of_two o (spread_of r) (spread_of s)) ≡ false → Answer (of_two (op_of number v o) r s) (spread.of_two o (spread_of r) (spread_of s))
  two_ranged op.Iff r s e = nothing (of_two (op_of number v op.Iff) r s) (λ z is. is)
  two_ranged op.Implies r s e = nothing (of_two (op_of number v op.Implies) r s) (λ z is. is)
  two_ranged op.Or r s e = nothing (of_two (op_of number v op.Or) r s) (λ z is. is)
  two_ranged op.Xor r s e = nothing (of_two (op_of number v op.Xor) r s) (λ z is. is)
  two_ranged op.And r s e = nothing (of_two (op_of number v op.And) r s) (λ z is. is)
  two_ranged op.Equal r s e = nothing (of_two (op_of number v op.Equal) r s) (λ z is. is)
  two_ranged op.NotEqual r s e = nothing (of_two (op_of number v op.NotEqual) r s) (λ z is. is)
  two_ranged op.Less r s e = nothing (of_two (op_of number v op.Less) r s) (λ z is. is)
  two_ranged op.LessEqual r s e = nothing (of_two (op_of number v op.LessEqual) r s) (λ z is. is)
  two_ranged op.Greater r s e = nothing (of_two (op_of number v op.Greater) r s) (λ z is. is)
  two_ranged op.GreaterEqual r s e = nothing (of_two (op_of number v op.GreaterEqual) r s) (λ z is. is)
  two_ranged op.Plus r s e = of_results ◌+ℤ◌ (λ a b c d. Between (a +ℤ c) (b +ℤ d)) (λ i j fine. bounded (results ◌+ℤ◌ (From i) (From j)) (i.low +ℤ j.low) (i.high +ℤ j.high) (sums i j) fine) r s e
  two_ranged op.Minus r s e = of_results ◌-ℤ◌ (λ a b c d. Between (a -ℤ d) (b -ℤ c)) (λ i j fine. bounded (results ◌-ℤ◌ (From i) (From j)) (i.low -ℤ j.high) (i.high -ℤ j.low) (differences i j) fine) r s e
  two_ranged op.Times r s e =
      of_results ◌*ℤ◌ (λ a b c d. spread.among (a *ℤ c) (a *ℤ d) (b *ℤ c) (b *ℤ d))
      (λ i j fine.
      bounded (results ◌*ℤ◌ (From i) (From j))
      (int_min (int_min (i.low *ℤ j.low) (i.low *ℤ j.high)) (int_min (i.high *ℤ j.low) (i.high *ℤ j.high)))
      (int_max (int_max (i.low *ℤ j.low) (i.low *ℤ j.high)) (int_max (i.high *ℤ j.low) (i.high *ℤ j.high))) (products i j) fine) r s e
  two_ranged op.Mod r s e = of_sizes r e
  two_ranged op.Idiv r s e = of_sizes r e
  two_ranged op.Min r s e = of_results int_min (λ a b c d. Between (int_min a c) (int_min b d)) (λ i j fine. bounded (results int_min (From i) (From j)) (int_min i.low j.low) (int_min i.high j.high) (lesser i j) fine) r s e
  two_ranged op.Max r s e = of_results int_max (λ a b c d. Between (int_max a c) (int_max b d)) (λ i j fine. bounded (results int_max (From i) (From j)) (int_max i.low j.low) (int_max i.high j.high) (greater i j) fine) r s e

  absolute_ranged : (i : Interval) → is_refused (spread.absolute (Between i.low i.high)) ≡ false → Answer (results_of_one (λ x. pos (unsigned_abs x)) (From i)) (spread.absolute (Between i.low i.high))
  absolute_ranged i e = by (int_le (pos 0) i.low) (int_le i.high (pos 0)) refl refl e
    where
      by : (s t : Truth) → int_le (pos 0) i.low ≡ s → int_le i.high (pos 0) ≡ t
          → is_refused (if s then Between i.low i.high else (if t then Between (neg_ℤ i.high) (neg_ℤ i.low) else across i)) ≡ false
          → Answer (results_of_one (λ x. pos (unsigned_abs x)) (From i)) (if s then Between i.low i.high else (if t then Between (neg_ℤ i.high) (neg_ℤ i.low) else across i))
      by true t is is' fine = bounded _ _ _ (size_above i (grind (arith, ints))) fine
      by false true is is' fine = bounded _ _ _ (size_below i (grind (arith, ints))) fine
      by false false is is' fine = bounded _ _ _ (size_across i (grind (arith, ints)) (grind (arith, ints))) fine

  -- what an operator gives of one range
  pub one_ranged : (o : UnaryOp) (r : Range) → is_refused (spread.of_one o (spread_of r)) ≡ false → Answer (of_one (unary_of number v o) r) (spread.of_one o (spread_of r))
  one_ranged unary.Not r e = nothing (of_one (unary_of number v unary.Not) r) (λ z is. is)
  one_ranged unary.Negate NoNumber e = nothing (results_of_one neg_ℤ NoNumber) (λ z is. is.1)
  one_ranged unary.Negate (From i) e = bounded (results_of_one neg_ℤ (From i)) (neg_ℤ i.high) (neg_ℤ i.low) (opposites i) e
  one_ranged unary.Abs NoNumber e = nothing (results_of_one (λ x. pos (unsigned_abs x)) NoNumber) (λ z is. is.1)
  one_ranged unary.Abs (From i) e = absolute_ranged i e
  one_ranged unary.IsDefined r e = nothing (of_one (unary_of number v unary.IsDefined) r) (λ z is. is)
  one_ranged unary.IsUndefined r e = nothing (of_one (unary_of number v unary.IsUndefined) r) (λ z is. is)

-- the range of what is in one of two
pub either_ranged : (r s : Range) → (q : Range) × (spread_of q ≡ either (spread_of r) (spread_of s)) × IsRangeOf (numbers_in_either r s) q
either_ranged NoNumber NoNumber = (NoNumber, refl, λ z is. elim is [ inl a ↦ a | inr a ↦ a ])
either_ranged NoNumber (From j) = (From j, refl, record { holds_all = λ z is. elim is [ inl a ↦ absurd a | inr a ↦ a ]; least = inr (low_of j); greatest = inr (high_of j) })
either_ranged (From i) NoNumber = (From i, refl, record { holds_all = λ z is. elim is [ inl a ↦ a | inr a ↦ absurd a ]; least = inl (low_of i); greatest = inl (high_of i) })
either_ranged (From i) (From j) = spanning (numbers_in_either (From i) (From j)) (int_min i.low j.low) (int_max i.high j.high) (both i j)
