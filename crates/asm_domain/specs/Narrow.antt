-- Numbers that may be bounds of an integer term.
use Rattle.std.specs.Prelude.{◌^◌, ◌≤◌, ℤ, unsigned_abs, Option, SomeIff}

-- at most 2^62 in absolute value
abbrev pub IsNarrow : ℤ → Type 0
IsNarrow z = unsigned_abs z ≤ 2 ^ 62

-- the number, exactly where it may be a bound
pub record IsNarrowed (result : Option ℤ) (z : ℤ) : Type 0 where
  pub given : SomeIff result (IsNarrow z) z
