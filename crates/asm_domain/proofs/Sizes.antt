-- Absolute values, and what a division gives.
use Rattle.std.proofs.Common.{◌≡◌, ℕ, zero, suc, ◌≤◌, max, ◌⊎◌, ◌↔◌, ℤ, pos, negsuc, neg_ℤ, ◌≤ℤ◌, ◌<ℤ◌, unsigned_abs, int_div, int_rem, Some, None, Result, Ok, Err, IfOk, IsErr, refl, sym, ap, ◌∙◌, inl, inr, arith}
use Rattle.std.proofs.lemmas.Int.{ints}
use Rattle.std.proofs.lemmas.Bool.{cases_lt}
use Rattle.std.proofs.Math.Nat.{div-le_self, mod-le}
use Rattle.asm_domain.specs.declared.interval.Interval.{Interval}
use Rattle.asm_domain.specs.declared.interval.RangeTooWide.{RangeTooWide}
use Rattle.asm_domain.specs.Interval.{Spans, HasWide, IsResultOfOne, HasSizeIn, HoldsResults, IsWithin}
use Rattle.asm_domain.specs.Narrow.{IsNarrowed}
use Rattle.asm_domain.proofs.Spanning.{AreBounds, decide, low_of, high_of}

-- to be between two opposite numbers is to have at most their absolute value
within_size : (n : ℕ) (z : ℤ) → unsigned_abs z ≤ n → (neg_ℤ (pos n) ≤ℤ z) × (z ≤ℤ pos n)
within_size n (pos a) h = (omega (arith, ints), omega (arith, ints))
within_size n (negsuc a) h = (omega (arith, ints), omega (arith, ints))

size_of_neg : (n : ℕ) → unsigned_abs (neg_ℤ (pos n)) ≡ n
size_of_neg zero = refl
size_of_neg (suc n) = refl

size_le_max : (l x h : ℤ) → l ≤ℤ x → x ≤ℤ h → unsigned_abs x ≤ max (unsigned_abs l) (unsigned_abs h)
size_le_max l (pos x) (pos h) from to = omega (arith, ints)
size_le_max l (pos x) (negsuc h) from to = absurd (omega (arith, ints))
size_le_max (pos l) (negsuc x) h from to = absurd (omega (arith, ints))
size_le_max (negsuc l) (negsuc x) h from to = omega (arith, ints)

max_is : (m n : ℕ) → (max m n ≡ m) ⊎ (max m n ≡ n)
max_is m n = elim (cases_lt m n) [ inl lt ↦ inr (omega arith) | inr le ↦ inl (omega arith) ]

pub most_same : (r a b m n : ℕ) → r ≡ max a b → a ≡ m → b ≡ n → pos r ≡ pos (max m n)
most_same r a b m n is e f = ap pos (is ∙ (λ i. max (e i) (f i)))

pub size_of_pos : (x : ℤ) → pos 0 ≤ℤ x → pos (unsigned_abs x) ≡ x
size_of_pos (pos x) some = refl
size_of_pos (negsuc x) some = absurd (omega (arith, ints))

size_of_negative : (x : ℤ) → x ≤ℤ pos 0 → pos (unsigned_abs x) ≡ neg_ℤ x
size_of_negative (pos x) none = omega (arith, ints)
size_of_negative (negsuc x) none = refl

module _ (i : Interval) where
  -- an end has the greatest absolute value
  end_size : (x : ℤ) × IsWithin i x × (max (unsigned_abs i.low) (unsigned_abs i.high) ≡ unsigned_abs x)
  end_size = elim (max_is (unsigned_abs i.low) (unsigned_abs i.high)) [ inl e ↦ (i.low, low_of i, e) | inr e ↦ (i.high, high_of i, e) ]

  pub sizes : AreBounds (HasSizeIn i) (neg_ℤ (pos (max (unsigned_abs i.low) (unsigned_abs i.high)))) (pos (max (unsigned_abs i.low) (unsigned_abs i.high)))
  sizes = record {
    least = (end_size.0, end_size.1, size_of_neg (max (unsigned_abs i.low) (unsigned_abs i.high)) ∙ end_size.2);
    greatest = end_size;
    between = λ z is. within_size (max (unsigned_abs i.low) (unsigned_abs i.high)) z (rw is.2 (size_le_max i.low is.0 i.high is.1.from is.1.to));
  }

  pub size_above : pos 0 ≤ℤ i.low → AreBounds (IsResultOfOne (λ x. pos (unsigned_abs x)) i) i.low i.high
  size_above some = record {
    least = (i.low, low_of i, size_of_pos i.low some);
    greatest = (i.high, high_of i, let o = i.ordered in size_of_pos i.high (omega (arith, ints)));
    between = λ z is.
        let from = is.1.from in
        let to = is.1.to in
        let e = is.2 in
        let f = size_of_pos is.0 (omega (arith, ints)) in (omega (arith, ints), omega (arith, ints));
  }

  pub size_below : i.high ≤ℤ pos 0 → AreBounds (IsResultOfOne (λ x. pos (unsigned_abs x)) i) (neg_ℤ i.high) (neg_ℤ i.low)
  size_below none = record {
    least = (i.high, high_of i, size_of_negative i.high none);
    greatest = (i.low, low_of i, let o = i.ordered in size_of_negative i.low (omega (arith, ints)));
    between = λ z is.
        let from = is.1.from in
        let to = is.1.to in
        let e = is.2 in
        let f = size_of_negative is.0 (omega (arith, ints)) in (omega (arith, ints), omega (arith, ints));
  }

  pub size_across : i.low <ℤ pos 0 → pos 0 <ℤ i.high → AreBounds (IsResultOfOne (λ x. pos (unsigned_abs x)) i) (pos 0) (pos (max (unsigned_abs i.low) (unsigned_abs i.high)))
  size_across some none = record {
    least = (pos 0, record { from = omega (arith, ints); to = omega (arith, ints) }, refl);
    greatest = (end_size.0, end_size.1, ap pos (sym end_size.2));
    between = λ z is.
        let le = size_le_max i.low is.0 i.high is.1.from is.1.to in
        let e = is.2 in (omega (arith, ints), omega (arith, ints));
  }

-- the interval of the absolute values and their opposites, and its refusal
pub sizes_some : (i k : Interval) (h : ℤ) → IsNarrowed (Some h) (pos (max (unsigned_abs i.low) (unsigned_abs i.high))) → k.low ≡ neg_ℤ h → k.high ≡ h → Spans (HasSizeIn i) k × (IsErr {T = Interval} {E = RangeTooWide} (Ok k) ↔ HasWide (HasSizeIn i))
sizes_some i k h at e f =
    let given = at.given in
    let m = max (unsigned_abs i.low) (unsigned_abs i.high) in
    let same : k.high ≡ pos (max (unsigned_abs i.low) (unsigned_abs i.high)) = f ∙ given.1 in
    let same' : k.low ≡ neg_ℤ (pos (max (unsigned_abs i.low) (unsigned_abs i.high))) = e ∙ ap neg_ℤ given.1 in
    decide (HasSizeIn i) (neg_ℤ (pos m)) (pos m) (Some k.low) (Some k.high) (Ok k)
    record { given = (rw (size_of_neg m) given.0, same') }
    record { given = (given.0, same) }
    (sizes i) (refl, refl) (λ no. absurd (cc no))

pub sizes_none : (i : Interval) → IsNarrowed None (pos (max (unsigned_abs i.low) (unsigned_abs i.high))) → HasWide (HasSizeIn i)
sizes_none i at =
    let given = at.given in
    record { number = pos (max (unsigned_abs i.low) (unsigned_abs i.high)); is_among = (sizes i).greatest; is_wide = omega (arith, given) }

quot_size : (x y : ℤ) → unsigned_abs (int_div x y) ≤ unsigned_abs x
quot_size (pos a) (pos b) = div-le_self a b
quot_size (pos a) (negsuc b) = rw size_of_neg (div-le_self a (suc b))
quot_size (negsuc a) (pos b) = rw size_of_neg (div-le_self (suc a) b)
quot_size (negsuc a) (negsuc b) = div-le_self (suc a) (suc b)

rem_size : (x y : ℤ) → unsigned_abs (int_rem x y) ≤ unsigned_abs x
rem_size (pos a) y = mod-le a (unsigned_abs y)
rem_size (negsuc a) y = rw size_of_neg (mod-le (suc a) (unsigned_abs y))

module _ (i j k : Interval) (s : Spans (HasSizeIn i) k) where
  held : (x z : ℤ) → IsWithin i x → unsigned_abs z ≤ unsigned_abs x → IsWithin k z
  held x z is le =
      let up = s.holds_all (pos (unsigned_abs x)) (x, is, refl) in
      let down = s.holds_all (neg_ℤ (pos (unsigned_abs x))) (x, is, size_of_neg (unsigned_abs x)) in
      let both = within_size (unsigned_abs x) z le in
      let lower = both.0 in let upper = both.1 in
      let from = down.from in let to = up.to in
      record { from = omega (arith, ints); to = omega (arith, ints) }

  pub holds_quotients : HoldsResults int_div i j k
  holds_quotients x y is is' other = held x (int_div x y) is (quot_size x y)

  pub holds_rests : HoldsResults int_rem i j k
  holds_rests x y is is' other = held x (int_rem x y) is (rem_size x y)

pub ok_quotients : (i j : Interval) (r : Result Interval RangeTooWide) → IfOk r (Spans (HasSizeIn i)) → IfOk r (HoldsResults int_div i j)
ok_quotients i j (Ok k) s = holds_quotients i j k s
ok_quotients i j (Err e) s = tt

pub ok_rests : (i j : Interval) (r : Result Interval RangeTooWide) → IfOk r (Spans (HasSizeIn i)) → IfOk r (HoldsResults int_rem i j)
ok_rests i j (Ok k) s = holds_rests i j k s
ok_rests i j (Err e) s = tt
