-- The bounds of products.
use Rattle.std.proofs.Common.{◌≡◌, ℕ, zero, suc, ◌^◌, ◌<◌, ◌⊎◌, ◌↔◌, ℤ, pos, negsuc, neg_ℤ, ◌≤ℤ◌, ◌<ℤ◌, ◌*ℤ◌, unsigned_abs, Result, Ok, Err, IfOk, IsErr, refl, sym, ap, ◌∙◌, subst, inl, inr, arith}
use Rattle.std.proofs.lemmas.Int.{ints, by_lt_z}
use Rattle.std.proofs.Math.IntN.{zero-*ℤ, suc_ℤ-*ℤ, *ℤ_comm, *ℤ-negsuc}
use Rattle.asm_domain.specs.declared.interval.Interval.{Interval}
use Rattle.asm_domain.specs.declared.interval.RangeTooWide.{RangeTooWide}
use Rattle.asm_domain.specs.Interval.{Spans, HasWide, IsResult, IsResultOfOne, IsInEither, IsWithin}
use Rattle.asm_domain.proofs.Spanning.{AreBounds, wide_between, low_of, high_of}

mul_up : (n : ℕ) (a b : ℤ) → a ≤ℤ b → (pos n *ℤ a) ≤ℤ (pos n *ℤ b)
mul_up zero a b h = omega (arith, ints, zero-*ℤ a, zero-*ℤ b)
mul_up (suc n) a b h =
    omega (arith, ints, suc_ℤ-*ℤ (pos n) a, suc_ℤ-*ℤ (pos n) b, mul_up n a b h)

neg_times : (n : ℕ) (a : ℤ) → negsuc n *ℤ a ≡ neg_ℤ (pos (suc n) *ℤ a)
neg_times n a =
    *ℤ_comm (negsuc n) a ∙ *ℤ-negsuc a n ∙ ap neg_ℤ (*ℤ_comm a (pos (suc n)))

mul_down : (n : ℕ) (a b : ℤ) → a ≤ℤ b → (negsuc n *ℤ b) ≤ℤ (negsuc n *ℤ a)
mul_down n a b h =
    let up = mul_up (suc n) a b h in omega (arith, ints, neg_times n a, neg_times n b, up)

-- the multiples of the numbers of an interval
pub multiples_up : (i : Interval) (k : ℤ) → pos 0 ≤ℤ k → AreBounds (IsResultOfOne (λ y. k *ℤ y) i) (k *ℤ i.low) (k *ℤ i.high)
multiples_up i (pos n) some = record {
  least = (i.low, low_of i, refl);
  greatest = (i.high, high_of i, refl);
  between = λ z is. rw (sym is.2) (mul_up n i.low is.0 is.1.from, mul_up n is.0 i.high is.1.to);
}
multiples_up i (negsuc n) some = absurd (omega (arith, ints))

pub multiples_down : (i : Interval) (k : ℤ) → k <ℤ pos 0 → AreBounds (IsResultOfOne (λ y. k *ℤ y) i) (k *ℤ i.high) (k *ℤ i.low)
multiples_down i (pos n) none = absurd (omega (arith, ints))
multiples_down i (negsuc n) none = record {
  least = (i.high, high_of i, refl);
  greatest = (i.low, low_of i, refl);
  between = λ z is. rw (sym is.2) (mul_down n is.0 i.high is.1.to, mul_down n i.low is.0 is.1.from);
}

pub between_multiples_up : (i : Interval) (k : ℤ) → pos 0 ≤ℤ k → (k *ℤ i.low) ≤ℤ (k *ℤ i.high)
between_multiples_up i k some = ((multiples_up i k some).between (k *ℤ i.high) (i.high, high_of i, refl)).0

pub between_multiples_down : (i : Interval) (k : ℤ) → k <ℤ pos 0 → (k *ℤ i.high) ≤ℤ (k *ℤ i.low)
between_multiples_down i k none = ((multiples_down i k none).between (k *ℤ i.low) (i.low, low_of i, refl)).0

-- a product stands between the products of the ends
between_ends : (a x b y l h : ℤ) → a ≤ℤ x → x ≤ℤ b → l ≤ℤ (a *ℤ y) → (a *ℤ y) ≤ℤ h → l ≤ℤ (b *ℤ y) → (b *ℤ y) ≤ℤ h → (l ≤ℤ (x *ℤ y)) × ((x *ℤ y) ≤ℤ h)
between_ends a x b (pos n) l h from to la ah lb bh =
    let below = mul_up n a x from in
    let above = mul_up n x b to in (
      omega (arith, ints, *ℤ_comm a (pos n), *ℤ_comm x (pos n), *ℤ_comm b (pos n), below, above),
      omega (arith, ints, *ℤ_comm a (pos n), *ℤ_comm x (pos n), *ℤ_comm b (pos n), below, above),
    )
between_ends a x b (negsuc n) l h from to la ah lb bh =
    let below = mul_down n a x from in
    let above = mul_down n x b to in (
      omega (arith, ints, *ℤ_comm a (negsuc n), *ℤ_comm x (negsuc n), *ℤ_comm b (negsuc n), below, above),
      omega (arith, ints, *ℤ_comm a (negsuc n), *ℤ_comm x (negsuc n), *ℤ_comm b (negsuc n), below, above),
    )

module _ (a b : Interval) where
  pub wide_at_low : HasWide (IsResultOfOne (λ y. a.low *ℤ y) b) → HasWide (IsResult ◌*ℤ◌ a b)
  wide_at_low w = record {
    number = w.number;
    is_among = (a.low, w.is_among.0, low_of a, w.is_among.1, w.is_among.2);
    is_wide = w.is_wide;
  }

  pub wide_at_high : HasWide (IsResultOfOne (λ y. a.high *ℤ y) b) → HasWide (IsResult ◌*ℤ◌ a b)
  wide_at_high w = record {
    number = w.number;
    is_among = (a.high, w.is_among.0, high_of a, w.is_among.1, w.is_among.2);
    is_wide = w.is_wide;
  }

  module _ (i j : Interval) (at_low : Spans (IsResultOfOne (λ y. a.low *ℤ y) b) i) (at_high : Spans (IsResultOfOne (λ y. a.high *ℤ y) b) j) where
    low_product : (y : ℤ) → IsWithin b y → IsWithin i (a.low *ℤ y)
    low_product y is = at_low.holds_all (a.low *ℤ y) (y, is, refl)

    high_product : (y : ℤ) → IsWithin b y → IsWithin j (a.high *ℤ y)
    high_product y is = at_high.holds_all (a.high *ℤ y) (y, is, refl)

    -- an end of the one interval is a product
    from_low : (z : ℤ) → IsResultOfOne (λ y. a.low *ℤ y) b z → IsResult ◌*ℤ◌ a b z
    from_low z is = (a.low, is.0, low_of a, is.1, is.2)

    from_high : (z : ℤ) → IsResultOfOne (λ y. a.high *ℤ y) b z → IsResult ◌*ℤ◌ a b z
    from_high z is = (a.high, is.0, high_of a, is.1, is.2)

    -- the ends of an interval that spans both are the products of ends
    pub spans : (k : Interval) → Spans (IsInEither i j) k → Spans (IsResult ◌*ℤ◌ a b) k
    spans k s = record {
      holds_all = λ z is.
          let u = s.holds_all (a.low *ℤ is.1) (inl (low_product is.1 is.3)) in
          let v = s.holds_all (a.high *ℤ is.1) (inr (high_product is.1 is.3)) in
          let both = between_ends a.low is.0 a.high is.1 k.low k.high is.2.from is.2.to u.from u.to v.from v.to in
          rw (sym is.4) record { from = both.0; to = both.1 };
      least = elim s.least [ inl w ↦ low_end w | inr w ↦ low_end' w ];
      greatest = elim s.greatest [ inl w ↦ high_end w | inr w ↦ high_end' w ];
    }
      where
        low_end : IsWithin i k.low → IsResult ◌*ℤ◌ a b k.low
        low_end w =
            let le = (s.holds_all i.low (inl (low_of i))).from in
            let ge = w.from in
            let e : i.low ≡ k.low = omega (arith, ints) in subst (IsResult ◌*ℤ◌ a b) e (from_low i.low at_low.least)

        low_end' : IsWithin j k.low → IsResult ◌*ℤ◌ a b k.low
        low_end' w =
            let le = (s.holds_all j.low (inr (low_of j))).from in
            let ge = w.from in
            let e : j.low ≡ k.low = omega (arith, ints) in subst (IsResult ◌*ℤ◌ a b) e (from_high j.low at_high.least)

        high_end : IsWithin i k.high → IsResult ◌*ℤ◌ a b k.high
        high_end w =
            let ge = (s.holds_all i.high (inl (high_of i))).to in
            let le = w.to in
            let e : i.high ≡ k.high = omega (arith, ints) in subst (IsResult ◌*ℤ◌ a b) e (from_low i.high at_low.greatest)

        high_end' : IsWithin j k.high → IsResult ◌*ℤ◌ a b k.high
        high_end' w =
            let ge = (s.holds_all j.high (inr (high_of j))).to in
            let le = w.to in
            let e : j.high ≡ k.high = omega (arith, ints) in subst (IsResult ◌*ℤ◌ a b) e (from_high j.high at_high.greatest)

    wide_end : (n : ℤ) → IsInEither i j n → 2 ^ 62 < unsigned_abs n → HasWide (IsResult ◌*ℤ◌ a b)
    wide_end n (inl w) wide =
        elim (wide_between (2 ^ 62) i.low n i.high w.from w.to wide) [
          | inl over ↦ record { number = i.low; is_among = from_low i.low at_low.least; is_wide = over }
          | inr over ↦ record { number = i.high; is_among = from_low i.high at_low.greatest; is_wide = over }
        ]
    wide_end n (inr w) wide =
        elim (wide_between (2 ^ 62) j.low n j.high w.from w.to wide) [
          | inl over ↦ record { number = j.low; is_among = from_high j.low at_high.least; is_wide = over }
          | inr over ↦ record { number = j.high; is_among = from_high j.high at_high.greatest; is_wide = over }
        ]

    wide_product : (x y z : ℤ) → IsWithin a x → IsWithin b y → x *ℤ y ≡ z → 2 ^ 62 < unsigned_abs z → HasWide (IsInEither i j)
    wide_product x y z is_x is_y e wide =
        let over : 2 ^ 62 < unsigned_abs (x *ℤ y) = rw e wide in
        by_lt_z (a.low *ℤ y) (a.high *ℤ y)
        (λ lt. let both = between_ends a.low x a.high y (a.low *ℤ y) (a.high *ℤ y) is_x.from is_x.to (omega (arith, ints)) (omega (arith, ints)) (omega (arith, ints)) (omega (arith, ints)) in
        one (a.low *ℤ y) (a.high *ℤ y) (inl (low_product y is_y)) (inr (high_product y is_y)) (wide_between (2 ^ 62) (a.low *ℤ y) (x *ℤ y) (a.high *ℤ y) both.0 both.1 over))
        (λ le. let both = between_ends a.low x a.high y (a.high *ℤ y) (a.low *ℤ y) is_x.from is_x.to (omega (arith, ints)) (omega (arith, ints)) (omega (arith, ints)) (omega (arith, ints)) in
        one (a.high *ℤ y) (a.low *ℤ y) (inr (high_product y is_y)) (inl (low_product y is_y)) (wide_between (2 ^ 62) (a.high *ℤ y) (x *ℤ y) (a.low *ℤ y) both.0 both.1 over))
      where
        one : (u v : ℤ) → IsInEither i j u → IsInEither i j v → (2 ^ 62 < unsigned_abs u) ⊎ (2 ^ 62 < unsigned_abs v) → HasWide (IsInEither i j)
        one u v is_u is_v (inl w) = record { number = u; is_among = is_u; is_wide = w }
        one u v is_u is_v (inr w) = record { number = v; is_among = is_v; is_wide = w }

    -- what spans the products with both ends spans the products, and the one is refused exactly where the other is
    pub decide_product : (r : Result Interval RangeTooWide) → IfOk r (Spans (IsInEither i j)) → (IsErr r ↔ HasWide (IsInEither i j)) → IfOk r (Spans (IsResult ◌*ℤ◌ a b)) × (IsErr r ↔ HasWide (IsResult ◌*ℤ◌ a b))
    decide_product (Ok k) s refused =
        (spans k s, (λ e. wide_to (refused.0 e), λ w. refused.1 (wide_product w.is_among.0 w.is_among.1 w.number w.is_among.2 w.is_among.3 w.is_among.4 w.is_wide)))
      where
        wide_to : HasWide (IsInEither i j) → HasWide (IsResult ◌*ℤ◌ a b)
        wide_to w = wide_end w.number w.is_among w.is_wide
    decide_product (Err e) s refused =
        (tt, (λ e. wide_to (refused.0 e), λ w. refl))
      where
        wide_to : HasWide (IsInEither i j) → HasWide (IsResult ◌*ℤ◌ a b)
        wide_to w = wide_end w.number w.is_among w.is_wide

-- a product of two numbers as the code holds them
pub product_same : (x y x' y' : ℤ) → x' ≡ x → y' ≡ y → x' *ℤ y' ≡ x *ℤ y
product_same x y x' y' e f = λ i. e i *ℤ f i

-- the multiples by one factor, told by an equal one
pub wide_same : (i : Interval) (k' k : ℤ) → k' ≡ k → HasWide (IsResultOfOne (λ y. k' *ℤ y) i) → HasWide (IsResultOfOne (λ y. k *ℤ y) i)
wide_same i k' k e w = let P : ℤ → Type 0 = λ x. HasWide (IsResultOfOne (λ y. x *ℤ y) i) in subst P e w

pub spans_same : (i j : Interval) (k' k : ℤ) → k' ≡ k → Spans (IsResultOfOne (λ y. k' *ℤ y) i) j → Spans (IsResultOfOne (λ y. k *ℤ y) i) j
spans_same i j k' k e s = let P : ℤ → Type 0 = λ x. Spans (IsResultOfOne (λ y. x *ℤ y) i) j in subst P e s
