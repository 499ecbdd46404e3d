-- When two numbers are the bounds of what an operation gives.
use Rattle.std.proofs.Common.{◌≡◌, ℕ, ◌^◌, ◌<◌, ◌≤◌, ◌⊎◌, ◌↔◌, ℤ, pos, negsuc, neg_ℤ, ◌≤ℤ◌, ◌+ℤ◌, ◌-ℤ◌, unsigned_abs, Option, Some, None, Result, Ok, Err, IfOk, IsErr, IsNone, refl, sym, ◌∙◌, subst, inl, inr, arith}
use Rattle.std.proofs.lemmas.Int.{ints, clamps, by_lt_z}
use Rattle.std.specs.Option.{ForSome}
use Rattle.std.specs.Int.{int_min, int_max}
use Rattle.std.specs.Int.Signed.{≤ℤ_refl}
use Rattle.asm_domain.specs.declared.interval.Interval.{Interval}
use Rattle.asm_domain.specs.declared.interval.RangeTooWide.{RangeTooWide}
use Rattle.asm_domain.specs.Narrow.{IsNarrowed}
use Rattle.asm_domain.specs.Interval.{Spans, HasWide, IsResult, IsResultOfOne, IsInEither, IsWithin}

-- all of some numbers stand between two of them
pub record AreBounds (numbers : ℤ → Type 0) (l h : ℤ) : Type 0 where
  pub least : numbers l
  pub greatest : numbers h
  pub between : (z : ℤ) → numbers z → (l ≤ℤ z) × (z ≤ℤ h)

pub low_of : (i : Interval) → IsWithin i i.low
low_of i = record { from = ≤ℤ_refl i.low; to = i.ordered }

pub high_of : (i : Interval) → IsWithin i i.high
high_of i = record { from = i.ordered; to = ≤ℤ_refl i.high }

-- a number that is over a limit has a bound that is
pub wide_between : (n : ℕ) (l z h : ℤ) → l ≤ℤ z → z ≤ℤ h → n < unsigned_abs z → (n < unsigned_abs l) ⊎ (n < unsigned_abs h)
wide_between n (pos l) (pos z) (pos h) from to wide = inr (omega (arith, ints))
wide_between n (pos l) (pos z) (negsuc h) from to wide = absurd (omega (arith, ints))
wide_between n (pos l) (negsuc z) h from to wide = absurd (omega (arith, ints))
wide_between n (negsuc l) (pos z) (pos h) from to wide = inr (omega (arith, ints))
wide_between n (negsuc l) (pos z) (negsuc h) from to wide = absurd (omega (arith, ints))
wide_between n (negsuc l) (negsuc z) h from to wide = inl (omega (arith, ints))

-- two numbers at hand are as they should be, in order
pub ordered : (l h : ℤ) (low high : Option ℤ) → IsNarrowed low l → IsNarrowed high h → l ≤ℤ h → ForSome low (λ x. ForSome high (λ y. x ≤ℤ y))
ordered l h (Some a) (Some b) at_low at_high le x is y is' =
    let in_low = at_low.given in let in_high = at_high.given in let e : a ≡ x = cc in let f : b ≡ y = cc in rw (sym e ∙ at_low.given.1, sym f ∙ at_high.given.1) le
ordered l h (Some a) None at_low at_high le x is y is' = cc
ordered l h None high at_low at_high le x is y is' = cc

-- a number that isn't at hand is too wide
wide_of_none : (z : ℤ) (o : Option ℤ) → IsNone o → IsNarrowed o z → 2 ^ 62 < unsigned_abs z
wide_of_none z None none at = let h = at.given in omega (arith, h)
wide_of_none z (Some x) none at = absurd (cc none)

-- a bounded interval spans the numbers whose bounds these are, and is refused exactly where one of the numbers is too wide
pub decide : (numbers : ℤ → Type 0) (l h : ℤ) (low high : Option ℤ) (r : Result Interval RangeTooWide) → IsNarrowed low l → IsNarrowed high h → AreBounds numbers l h
    → IfOk r (λ i. (low ≡ Some i.low) × (high ≡ Some i.high)) → (IsErr r → IsNone low ⊎ IsNone high) → IfOk r (Spans numbers) × (IsErr r ↔ HasWide numbers)
decide numbers l h (Some a) (Some b) (Ok i) at_low at_high are ok err =
    let in_low = at_low.given in
    let in_high = at_high.given in
    let e : i.low ≡ l = cc in
    let f : i.high ≡ h = cc in
    let all : (z : ℤ) → numbers z → (i.low ≤ℤ z) × (z ≤ℤ i.high) = λ z is. rw (e, f) (are.between z is) in
    let narrow_low : unsigned_abs i.low ≤ 2 ^ 62 = rw e at_low.given.0 in
    let narrow_high : unsigned_abs i.high ≤ 2 ^ 62 = rw f at_high.given.0 in (
      record { holds_all = λ z is. record { from = (all z is).0; to = (all z is).1 }; least = rw e are.least; greatest = rw f are.greatest },
      (λ no. cc, λ w. absurd (narrow_has_none (2 ^ 62) i.low w.number i.high (all w.number w.is_among) w.is_wide narrow_low narrow_high)),
    )
  where
    narrow_has_none : (n : ℕ) (l z h : ℤ) → (l ≤ℤ z) × (z ≤ℤ h) → n < unsigned_abs z → unsigned_abs l ≤ n → unsigned_abs h ≤ n → ⊥
    narrow_has_none n l z h is wide at_l at_h = elim (wide_between n l z h is.0 is.1 wide) [ inl w ↦ omega arith | inr w ↦ omega arith ]
decide numbers l h (Some a) None (Ok i) at_low at_high are ok err = absurd (cc ok.1)
decide numbers l h None high (Ok i) at_low at_high are ok err = absurd (cc ok.0)
decide numbers l h low high (Err e) at_low at_high are ok err =
    (tt, (λ is. either (err is), λ w. refl))
  where
    either : IsNone low ⊎ IsNone high → HasWide numbers
    either (inl none) = record { number = l; is_among = are.least; is_wide = wide_of_none l low none at_low }
    either (inr none) = record { number = h; is_among = are.greatest; is_wide = wide_of_none h high none at_high }

module _ (i j : Interval) where
  pub sums : AreBounds (IsResult ◌+ℤ◌ i j) (i.low +ℤ j.low) (i.high +ℤ j.high)
  sums = record {
    least = (i.low, j.low, low_of i, low_of j, refl);
    greatest = (i.high, j.high, high_of i, high_of j, refl);
    between = λ z is. let from = is.2.from in let from' = is.3.from in let to = is.2.to in let to' = is.3.to in let e = is.4 in (omega (arith, ints), omega (arith, ints));
  }

  pub differences : AreBounds (IsResult ◌-ℤ◌ i j) (i.low -ℤ j.high) (i.high -ℤ j.low)
  differences = record {
    least = (i.low, j.high, low_of i, high_of j, refl);
    greatest = (i.high, j.low, high_of i, low_of j, refl);
    between = λ z is. let from = is.2.from in let from' = is.3.from in let to = is.2.to in let to' = is.3.to in let e = is.4 in (omega (arith, ints), omega (arith, ints));
  }

  pub lesser : AreBounds (IsResult int_min i j) (int_min i.low j.low) (int_min i.high j.high)
  lesser = record {
    least = (i.low, j.low, low_of i, low_of j, refl);
    greatest = (i.high, j.high, high_of i, high_of j, refl);
    between = λ z is. let from = is.2.from in let from' = is.3.from in let to = is.2.to in let to' = is.3.to in let e = is.4 in (omega (arith, ints, clamps), omega (arith, ints, clamps));
  }

  pub greater : AreBounds (IsResult int_max i j) (int_max i.low j.low) (int_max i.high j.high)
  greater = record {
    least = (i.low, j.low, low_of i, low_of j, refl);
    greatest = (i.high, j.high, high_of i, high_of j, refl);
    between = λ z is. let from = is.2.from in let from' = is.3.from in let to = is.2.to in let to' = is.3.to in let e = is.4 in (omega (arith, ints, clamps), omega (arith, ints, clamps));
  }

  pub both : AreBounds (IsInEither i j) (int_min i.low j.low) (int_max i.high j.high)
  both = record {
    least = by_lt_z j.low i.low (λ lt. inr record { from = omega (arith, ints, clamps); to = let o = j.ordered in omega (arith, ints, clamps) }) (λ le. inl record { from = omega (arith, ints, clamps); to = let o = i.ordered in omega (arith, ints, clamps) });
    greatest = by_lt_z j.high i.high (λ lt. inl record { from = let o = i.ordered in omega (arith, ints, clamps); to = omega (arith, ints, clamps) }) (λ le. inr record { from = let o = j.ordered in omega (arith, ints, clamps); to = omega (arith, ints, clamps) });
    between = λ z is. elim is [
      | inl w ↦ let from = w.from in let to = w.to in (omega (arith, ints, clamps), omega (arith, ints, clamps))
      | inr w ↦ let from = w.from in let to = w.to in (omega (arith, ints, clamps), omega (arith, ints, clamps))
    ];
  }

module _ (i : Interval) where
  pub opposites : AreBounds (IsResultOfOne neg_ℤ i) (neg_ℤ i.high) (neg_ℤ i.low)
  opposites = record {
    least = (i.high, high_of i, refl);
    greatest = (i.low, low_of i, refl);
    between = λ z is. let from = is.1.from in let to = is.1.to in let e = is.2 in (omega (arith, ints), omega (arith, ints));
  }

-- a number at hand, told by an equal number
pub at_same : (o : Option ℤ) (l' : ℤ) → IsNarrowed o l' → (l : ℤ) → l' ≡ l → IsNarrowed o l
at_same o l' at l e = let P : ℤ → Type 0 = λ z. IsNarrowed o z in subst P e at

pub narrow_zero : IsNarrowed (Some (pos 0)) (pos 0)
narrow_zero = record { given = (omega arith, refl) }
