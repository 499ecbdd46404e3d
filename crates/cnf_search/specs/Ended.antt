-- The values of a whole trail.
use Rattle.std.specs.Prelude.{ℕ, Bool, false, unwrap_or}
use Rattle.cnf_base.specs.Known.{Partial}

-- the values, and false where there is none
abbrev pub completed : Partial → ℕ → Bool
completed p n = unwrap_or (p n) false
