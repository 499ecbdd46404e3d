-- Intervals of whole numbers: which numbers an operation gives, and the interval that spans them.
use Rattle.std.specs.Prelude.{◌≡◌, ◌≢◌, ◌^◌, ◌<◌, ◌⊎◌, ℤ, pos, ◌≤ℤ◌, unsigned_abs}
use Rattle.asm_domain.specs.declared.interval.Interval.{Interval}

-- the number stands between the bounds
pub record IsWithin (i : Interval) (z : ℤ) : Type 0 where
  pub from : i.low ≤ℤ z
  pub to : z ≤ℤ i.high

-- what the operation gives of a number of each interval
abbrev pub IsResult : (ℤ → ℤ → ℤ) → Interval → Interval → ℤ → Type 0
IsResult op i j z = (x : ℤ) × (y : ℤ) × IsWithin i x × IsWithin j y × (op x y ≡ z)

-- what the operation gives of a number of the interval
abbrev pub IsResultOfOne : (ℤ → ℤ) → Interval → ℤ → Type 0
IsResultOfOne op i z = (x : ℤ) × IsWithin i x × (op x ≡ z)

-- a number of one of the intervals
abbrev pub IsInEither : Interval → Interval → ℤ → Type 0
IsInEither i j z = IsWithin i z ⊎ IsWithin j z

-- a number with the absolute value of one of the interval
abbrev pub HasSizeIn : Interval → ℤ → Type 0
HasSizeIn i z = (x : ℤ) × IsWithin i x × (unsigned_abs z ≡ unsigned_abs x)

-- the interval from the least to the greatest of some numbers
pub record Spans (numbers : ℤ → Type 0) (i : Interval) : Type 0 where
  pub holds_all : (z : ℤ) → numbers z → IsWithin i z
  pub least : numbers i.low
  pub greatest : numbers i.high

-- the interval holds what a division gives of a number of each interval, but for the divisor 0
abbrev pub HoldsResults : (ℤ → ℤ → ℤ) → Interval → Interval → Interval → Type 0
HoldsResults op i j k = (x y : ℤ) → IsWithin i x → IsWithin j y → y ≢ pos 0 → IsWithin k (op x y)

-- one of some numbers is over 2^62 in absolute value, and so the least or the greatest is
pub record HasWide (numbers : ℤ → Type 0) : Type 0 where
  pub number : ℤ
  pub is_among : numbers number
  pub is_wide : 2 ^ 62 < unsigned_abs number
