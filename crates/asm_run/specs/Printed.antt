-- What a run prints, and how it ends.
use Rattle.std.specs.Prelude.{ℕ, zero, suc, ◌+◌, List, [], ◌∷◌, ◌++◌, Option, Some, None, Result, Ok, Err, codes}
use Rattle.std.specs.Fmt.{decimal}
use Rattle.asm_source.specs.declared.sources.Source.{Source}
use Rattle.asm_node.specs.declared.stop.Stop.{Stop}
use Rattle.asm_node.specs.declared.stop.Stop.TheVariants.{Invariant}
use Rattle.asm_node.specs.Machine.{Machine, State, Input, no_input}
use Rattle.asm_node.specs.Step.{initial, next, broken}
use Rattle.asm_text.specs.Texts.{line, state_text, stop_line}
use Rattle.asm_run.specs.declared.run.RunEnd.{RunEnd}
use Rattle.asm_run.specs.declared.run.RunEnd.TheVariants.{Done, Stopped}

-- a text, and how the run ends that it tells of
pub record Printed : Type 0 where
  pub text : List ℕ
  pub end : RunEnd

abbrev pub after : List ℕ → Printed → Printed
after text p = record { text = text ++ p.text; end = p.end }

-- all steps are made
abbrev pub ended : Printed
ended = record { text = line (codes "end"); end = Done }

-- the run stops
abbrev pub stopped : Machine → List Source → Stop → Printed
stopped m sources e = record { text = stop_line m.signature sources e; end = Stopped e }

-- a state with its number
abbrev pub numbered_state : Machine → ℕ → State → List ℕ
numbered_state m number s = line (codes "state " ++ decimal number) ++ state_text m.signature s

-- a false invariant stops the run
abbrev pub unless_broken : Machine → List Source → Option ℕ → Printed → Printed
unless_broken m sources (Some n) more = stopped m sources (Invariant n)
unless_broken m sources None more = more

-- goes on in the next state with the words that are left; a stop ends the run
abbrev pub go_on : Machine → List Source → Result (State × List ℕ) Stop → (State → List ℕ → Printed) → Printed
go_on m sources (Ok p) more = more p.0 p.1
go_on m sources (Err e) more = stopped m sources e

-- what is printed of a step that is refused, and nothing of one that is made
abbrev pub stop_of : Machine → List Source → Result (State × List ℕ) Stop → List ℕ
stop_of m sources (Ok p) = []
stop_of m sources (Err e) = stop_line m.signature sources e

-- the input of the next step; past the inputs it gives nothing
abbrev pub first_input : List Input → Input
first_input [] = no_input
first_input (i ∷ inputs) = i

abbrev pub further_inputs : List Input → List Input
further_inputs [] = []
further_inputs (i ∷ inputs) = inputs

-- the run from the state of a number on, with so many steps left
abbrev pub run_from : Machine → List Source → ℕ → State → List Input → List ℕ → ℕ → Printed
run_from m sources number s inputs words zero =
    after (numbered_state m number s) (unless_broken m sources (broken m s) ended)
run_from m sources number s inputs words (suc left) =
    after (numbered_state m number s) (unless_broken m sources (broken m s)
    (go_on m sources (next m s (first_input inputs) words m.main) (λ t rest. run_from m sources (number + 1) t (further_inputs inputs) rest left)))

-- no state is printed where an initial value is bad
abbrev pub begun : Machine → List Source → Result State Stop → (State → Printed) → Printed
begun m sources (Ok s) more = more s
begun m sources (Err e) more = stopped m sources e

-- the run of so many steps from the initial state
abbrev pub run_of : Machine → List Source → List Input → List ℕ → ℕ → Printed
run_of m sources inputs words steps = begun m sources (initial m) (λ s. run_from m sources 0 s inputs words steps)
