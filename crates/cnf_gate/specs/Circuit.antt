-- What contracts see of a circuit, and what holds of each.
use Rattle.std.specs.Prelude.{◌≡◌, ℕ, ◌+◌, ◌≤◌, Bool, true, List, length}
use Rattle.cnf_base.specs.declared.lit.Lit.{Lit}
use Rattle.cnf_base.specs.Clauses.{formula_true, variables, value_in}
use Rattle.cnf_gate.specs.Gates.{literals}
use Rattle.cnf_gate.specs.Built.{is_chosen, ArePlaces, IsDetermined, AreGroups}
use Rattle.cnf_gate.specs.Limits.{IsWithinLimits}

-- group and gate clauses, required clauses, and groups
pub record Drawn : Type 0 where
  pub fixed : List (List Lit)
  pub required : List (List Lit)
  pub groups : List (List Lit)

-- an assignment of the group and gate clauses that makes just the chosen literals of the groups true
pub record Chooses (fixed groups : List (List Lit)) (places : List ℕ) (a : List Bool) : Type 0 where
  pub whole : length a ≡ variables fixed
  pub holds : formula_true (value_in a) fixed ≡ true
  pub chosen : is_chosen (value_in a) groups places ≡ true

-- for each choice of one literal per group there is exactly one assignment
abbrev pub EachChoiceOnce : List (List Lit) → List (List Lit) → Type 0
EachChoiceOnce fixed groups = (places : List ℕ) → ArePlaces groups places
    → (a : List Bool) × Chooses fixed groups places a × ((b : List Bool) → Chooses fixed groups places b → b ≡ a)

-- what every circuit keeps
pub record IsCircuit (fixed required groups : List (List Lit)) : Type 0 where
  pub determined : IsDetermined fixed groups (variables fixed)
  pub grouped : AreGroups fixed groups
  pub posed : variables required ≤ variables fixed
  pub limits : IsWithinLimits (variables fixed) (literals fixed + literals required)
