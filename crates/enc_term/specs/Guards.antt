-- What is asked of the values of a guard.
use Rattle.std.specs.Prelude.{ℕ, Bool, true, false, not, ◌&&◌, ◌||◌, List, [], ◌∷◌, map, filter, if◌then◌else◌}
use Rattle.std.specs.List.{list_any, list_all}
use Rattle.cnf_base.specs.declared.lit.Lit.{Lit}
use Rattle.cnf_base.specs.Clauses.{lit_true}
use Rattle.asm_domain.specs.declared.value.Value as datum
use Rattle.asm_domain.specs.declared.value.Value.TheVariants as variant
use Rattle.asm_node.specs.declared.operator.Quantifier.{Quantifier}
use Rattle.asm_node.specs.declared.operator.Quantifier.TheVariants.{Forall, Exist, ExistUnique}
use Rattle.asm_node.specs.Values as values
use Rattle.enc_group.specs.declared.group.Entry.{Entry}
use Rattle.enc_term.specs.declared.guards.Test.{Test}
use Rattle.enc_term.specs.declared.guards.Test.TheVariants.{IsGiven, IsTruth, IsTrue}

-- whether a value passes a test
abbrev pub passes_test : Test → datum.Value → Bool
passes_test IsGiven x = true
passes_test IsTruth x = values.is_truth x
passes_test IsTrue x = values.is_true x

-- whether a group has a true literal of a value that passes
abbrev pub any_passes : (ℕ → Bool) → Test → List Entry → Bool
any_passes v test es = list_any (λ e. passes_test test e.value && lit_true v e.lit) es

-- the literals of the values that pass
abbrev pub lits_passing : Test → List Entry → List Lit
lits_passing test es = map (λ e. e.lit) (filter (λ e. passes_test test e.value) es)

-- whether a group has a value that is no truth value
abbrev pub is_odd : List Entry → Bool
is_odd es = list_any (λ e. not (values.is_truth e.value)) es

abbrev pub are_odd : List (List Entry) → Bool
are_odd groups = list_any is_odd groups

-- at least two are true
abbrev pub two_true : List Bool → Bool
two_true [] = false
two_true (b ∷ bs) = (b && list_any (λ c. c) bs) || two_true bs

-- one is true, and no other
abbrev pub exactly_one : List Bool → Bool
exactly_one bs = list_any (λ b. b) bs && not (two_true bs)

-- whether all are true, one is, or exactly one is
abbrev pub is_decided : Quantifier → List Bool → Bool
is_decided Forall bs = list_all (λ b. b) bs
is_decided Exist bs = list_any (λ b. b) bs
is_decided ExistUnique bs = exactly_one bs

-- the values of a quantifier with their literals
abbrev pub answers_are : Lit → Lit → Lit → Bool → List Entry
answers_are met unmet odd with_odd =
    (record { value = variant.Bool true; lit = met }) ∷ (record { value = variant.Bool false; lit = unmet }) ∷ (if with_odd then (record { value = variant.Undef; lit = odd }) ∷ [] else [])

-- true and false, and `undef` where a guard may be no truth value
abbrev pub answer_values : Bool → List datum.Value
answer_values with_odd = variant.Bool true ∷ variant.Bool false ∷ (if with_odd then variant.Undef ∷ [] else [])
