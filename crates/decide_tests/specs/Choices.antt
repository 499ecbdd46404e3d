-- What a circuit of one group of two says.
use Rattle.std.specs.Prelude.{◌≡◌, ◌≤◌, Bool, true, List, [], ◌∷◌, if◌then◌else◌}
use Rattle.cnf_base.specs.declared.lit.Lit.{Lit}
use Rattle.cnf_base.specs.Clauses.{IsSatisfied, lit_true, value_in}
use Rattle.cnf_gate.specs.Circuit.{Drawn}
use Rattle.cnf_search.specs.Lines.{choices}
use Rattle.two_level.specs.Asking.{formula_of}

-- the clause that makes a literal true, unless it is left free
abbrev pub forbidden : Bool → Lit → List (List Lit)
forbidden is_free l = if is_free then [] else (l ∷ []) ∷ []

-- whether the first of two literals may be true, and whether the second may
abbrev pub is_allowed : Bool → Bool → Bool → Bool
is_allowed first second is_first = if is_first then first else second

-- a circuit that chooses among two literals by the value of the first, each where it is allowed
pub record ChoosesAmong (first second : Bool) (c : Drawn) (l : Lit) : Type 0 where
  pub allowed : (a : List Bool) → IsSatisfied (formula_of c) a → is_allowed first second (lit_true (value_in a) l) ≡ true
  pub solved : (b : Bool) → is_allowed first second b ≡ true → (a : List Bool) × IsSatisfied (formula_of c) a
  pub few : choices c.groups ≤ 2
