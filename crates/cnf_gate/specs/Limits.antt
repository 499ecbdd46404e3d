-- The limits of a builder, and when it may refuse.
use Rattle.std.specs.Prelude.{ℕ, ◌<◌, ◌≤◌, ◌⊎◌, ⊤, Result, Ok, Err}
use Rattle.cnf_gate.specs.declared.builder.GateError.{GateError}
use Rattle.cnf_gate.specs.declared.builder.GateError.TheVariants.{TooLarge, Memory}

-- so many variables, or so many literals over all clauses, are too many
abbrev pub IsOverLimit : ℕ → ℕ → Type 0
IsOverLimit variables literals = (2000000 < variables) ⊎ (30000000 < literals)

abbrev pub IsWithinLimits : ℕ → ℕ → Type 0
IsWithinLimits variables literals = (variables ≤ 2000000) × (literals ≤ 30000000)

-- a fact for the answer that a limit is passed
abbrev pub OnTooLarge : {T : Type 0} → Result T GateError → Type 0 → Type 0
OnTooLarge (Ok _) P = ⊤
OnTooLarge (Err TooLarge) P = P
OnTooLarge (Err Memory) P = ⊤
