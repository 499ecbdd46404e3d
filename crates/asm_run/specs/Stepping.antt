-- What the calls answer of which a step consists.
use Rattle.std.specs.Prelude.{◌≡◌, ⊤, ℕ, List, Option, Some, None, Result, Ok, Err, is_some}
use Rattle.std.specs.FinMap.{get}
use Rattle.asm_node.specs.declared.stop.Stop.{Stop}
use Rattle.asm_node.specs.declared.stop.Stop.TheVariants.{Invariant}
use Rattle.asm_node.specs.Machine.{Machine, State, has_kind}
use Rattle.asm_node.specs.Machine as machine
use Rattle.asm_node.specs.Step.{broken, next}
use Rattle.asm_run.specs.declared.error.StepError.{StepError}
use Rattle.asm_run.specs.declared.error.StepError.TheVariants.{Stop as Stops, Memory}
use Rattle.asm_sign.specs.Kind.{is_kept}
use Rattle.asm_sign.specs.Vocabulary.{Vocabulary, function_at}

-- the stop is the step's; want of memory says nothing
abbrev pub Refuses : StepError → Result (State × List ℕ) Stop → Type 0
Refuses (Stops e) step = step ≡ Err e
Refuses Memory step = ⊤

-- the step leads to this state and leaves these words, or it is refused
abbrev pub Leads : {A : Type 0} → Result A StepError → State → List ℕ → Result (State × List ℕ) Stop → Type 0
Leads (Ok a) s words step = step ≡ Ok (s, words)
Leads (Err e) s words step = Refuses e step

-- the answer where this invariant, or none, is false
abbrev pub answer_of : Option ℕ → Result (Unit {0}) StepError
answer_of (Some n) = Err (Stops (Invariant n))
answer_of None = Ok tt

-- where an invariant is false no step is made
abbrev pub unless_false : Option ℕ → Result (State × List ℕ) Stop → Result (State × List ℕ) Stop
unless_false (Some n) step = Err (Invariant n)
unless_false None step = step

-- the step of the main rule from a state
abbrev pub step_from : Machine → State → machine.Input → List ℕ → Result (State × List ℕ) Stop
step_from m s input words = unless_false (broken m s) (next m s input words m.main)

-- the step leads to this state and leaves these words, or it stops
abbrev pub Goes : Option Stop → State → List ℕ → Result (State × List ℕ) Stop → Type 0
Goes (Some e) s words step = step ≡ Err e
Goes None s words step = step ≡ Ok (s, words)

-- a state has a value for each kept slot and for no other
abbrev pub HasKept : Vocabulary → State → Type 0
HasKept v s = (l : ℕ) → is_some (get s l) ≡ has_kind is_kept (function_at v l)
