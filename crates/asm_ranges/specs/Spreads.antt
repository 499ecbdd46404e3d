-- The intervals of terms as the code holds them.
use Rattle.std.specs.Prelude.{◌≡◌, ◌^◌, ℤ, pos, neg_ℤ, ◌+ℤ◌, ◌-ℤ◌, ◌*ℤ◌, true, false, Result, Ok, Err}
use Rattle.std.specs.Int.{int_min, int_max}
use Rattle.asm_domain.specs.declared.interval.Interval.{Interval}
use Rattle.asm_domain.specs.declared.interval.RangeTooWide.{RangeTooWide}
use Rattle.asm_faults.specs.Ranges.{Spread, NoNumber, Between, Missing, among, is_refused}
use Rattle.asm_ranges.specs.declared.spread.Spread as code
use Rattle.asm_ranges.specs.declared.spread.Spread.TheVariants as form
use Rattle.asm_ranges.specs.declared.spread.Arithmetic.{Arithmetic}
use Rattle.asm_ranges.specs.declared.spread.Arithmetic.TheVariants.{Plus, Minus, Times, Min, Max}

-- an interval by its bounds alone
abbrev pub bounds_of : code.Spread → Spread
bounds_of form.NoNumber = NoNumber
bounds_of (form.Between i) = Between i.low i.high
bounds_of form.Missing = Missing

-- what is given is an interval that isn't refused, or else its refusal
abbrev pub Answers : Result code.Spread RangeTooWide → Spread → Type 0
Answers (Ok s) r = (bounds_of s ≡ r) × (is_refused r ≡ false)
Answers (Err e) r = is_refused r ≡ true

-- the same for an interval that is there
abbrev pub HasEnds : Result Interval RangeTooWide → Spread → Type 0
HasEnds (Ok i) r = (Between i.low i.high ≡ r) × (is_refused r ≡ false)
HasEnds (Err e) r = is_refused r ≡ true

-- the interval of one number
abbrev pub IsWhole : code.Spread → ℤ → Type 0
IsWhole s z = bounds_of s ≡ Between z z

-- what an operator gives of two intervals with these bounds
abbrev pub ends : Arithmetic → ℤ → ℤ → ℤ → ℤ → Spread
ends Plus a b c d = Between (a +ℤ c) (b +ℤ d)
ends Minus a b c d = Between (a -ℤ d) (b -ℤ c)
ends Times a b c d = among (a *ℤ c) (a *ℤ d) (b *ℤ c) (b *ℤ d)
ends Min a b c d = Between (int_min a c) (int_min b d)
ends Max a b c d = Between (int_max a c) (int_max b d)

-- from -2^31 to 2^31
abbrev pub whole_numbers : Spread
whole_numbers = Between (neg_ℤ (pos (2 ^ 31))) (pos (2 ^ 31))
