-- What is printed of a report.
use Rattle.std.specs.Prelude.{◌≡◌, ⊤, ℕ, List, [], ◌++◌, Option, Some, None, slice_get, is_some, length, codes}
use Rattle.std.specs.Fmt.{decimal}
use Rattle.std.specs.FinMap.{get}
use Rattle.asm_domain.specs.declared.value.Value.{Value}
use Rattle.asm_sign.specs.Kind.{is_kept}
use Rattle.asm_sign.specs.Vocabulary.{Vocabulary, function_at}
use Rattle.asm_node.specs.Machine.{State, has_kind}
use Rattle.asm_text.specs.Texts.{line, function_name, arguments_text, value_text}
use Rattle.ref_link.specs.declared.link.Link.{Link}
use Rattle.ref_link.specs.Linking.{Linking}
use Rattle.ref_report.specs.declared.report.Step.{Step}
use Rattle.ref_report.specs.declared.report.Difference.{Difference}
use Rattle.ref_report.specs.declared.report.Possible.{Possible}
use Rattle.ref_report.specs.declared.report.Possible.TheVariants.{Able, Unable}
use Rattle.ref_report.specs.declared.report.Report.{Report}
use Rattle.ref_report.specs.declared.report.Report.TheVariants.{Proved, InitialDiffers, InitialInvariant, StepFails, Spent}
use Rattle.ref_report.specs.Texts.{links_text, step_text}

-- the state has a value for each kept slot and for no other
abbrev pub HasKept : Vocabulary → State → Type 0
HasKept v s = (slot : ℕ) → is_some (get s slot) ≡ has_kind is_kept (function_at v slot)

-- the states of a step are of the models with these signatures
pub record IsStepOf (a c : Vocabulary) (step : Step) : Type 0 where
  pub abstract_state : HasKept a step.abstract_state
  pub concrete_state : HasKept c step.concrete_state
  pub next : HasKept c step.next

-- a step that is to be printed is of these models
abbrev pub IsOf : Linking → Report → Type 0
IsOf p (StepFails step refutation) = IsStepOf p.abstract_model.signature p.concrete_model.signature step
IsOf p (Proved refutation possible) = ⊤
IsOf p (InitialDiffers difference) = ⊤
IsOf p (InitialInvariant number) = ⊤
IsOf p (Spent effort) = ⊤

-- whether the concrete model has a step at all
abbrev pub possible_line : Possible → List ℕ
possible_line (Able step) = line (codes "a concrete step is possible")
possible_line (Unable refutation) = line (codes "no concrete step is possible")

-- the abstract function of a link at arguments: `f`, or `f(v,w)` without blanks
abbrev pub linked_text : Vocabulary → List Value → Option Link → List ℕ
linked_text a arguments (Some link) = function_name a link.abstract_function ++ arguments_text a arguments
linked_text a arguments None = []

-- that a link has different values initially
abbrev pub differs_line : Vocabulary → Vocabulary → List Link → Difference → List ℕ
differs_line a c links d =
    line (codes "not proved: initial states differ at " ++ linked_text a d.arguments (slice_get links d.link) ++ codes ": " ++ value_text a d.abstract_value ++ codes " and " ++ value_text c d.concrete_value)

-- that an abstract invariant doesn't hold initially
abbrev pub invariant_line : ℕ → List ℕ
invariant_line number = line (codes "not proved: abstract invariant " ++ decimal number ++ codes " is false initially")

-- what a refinement came to
abbrev pub outcome_text : Linking → ℕ → Report → List ℕ
outcome_text p budget (Proved refutation possible) = line (codes "proved") ++ line (codes "derivation " ++ decimal (length refutation.lines)) ++ possible_line possible
outcome_text p budget (InitialDiffers difference) = differs_line p.abstract_model.signature p.concrete_model.signature p.links difference
outcome_text p budget (InitialInvariant number) = invariant_line number
outcome_text p budget (StepFails step refutation) = line (codes "not proved: nothing answers this step") ++ step_text p.abstract_model.signature p.concrete_model.signature step
outcome_text p budget (Spent effort) = line (codes "budget of " ++ decimal budget ++ codes " conflicts used up")

-- the lines of the links, and then of what the refinement came to
abbrev pub report_text : Linking → ℕ → Report → List ℕ
report_text p budget report = links_text p ++ outcome_text p budget report
