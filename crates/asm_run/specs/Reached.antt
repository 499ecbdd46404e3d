-- The state that a run reaches, and the choice words that are left there.
use Rattle.std.specs.Prelude.{ℕ, zero, suc, List, Result, Ok, Err}
use Rattle.asm_node.specs.declared.stop.Stop.{Stop}
use Rattle.asm_node.specs.Machine.{Machine, State, Input}
use Rattle.asm_run.specs.Printed.{first_input, further_inputs}
use Rattle.asm_run.specs.Stepping.{step_from}

-- a step leads on, and a stop leaves all as it is
abbrev pub landed : State × List ℕ → Result (State × List ℕ) Stop → State × List ℕ
landed here (Ok p) = p
landed here (Err e) = here

-- goes on from where a step leads, and stays where it stops
abbrev pub onward : State × List ℕ → Result (State × List ℕ) Stop → (State → List ℕ → State × List ℕ) → State × List ℕ
onward here (Ok p) more = more p.0 p.1
onward here (Err e) more = here

-- what so many steps of the main rule reach, or as many as are made before a stop
abbrev pub reached_from : Machine → State → List Input → List ℕ → ℕ → State × List ℕ
reached_from m s inputs words zero = (s, words)
reached_from m s inputs words (suc steps) = onward (s, words) (step_from m s (first_input inputs) words) (λ t rest. reached_from m t (further_inputs inputs) rest steps)

-- the words that are left where a run from the initial state ends; where there is none, all are left
abbrev pub words_left : Machine → Result State Stop → List Input → List ℕ → ℕ → List ℕ
words_left m (Ok s) inputs words steps = (reached_from m s inputs words steps).1
words_left m (Err e) inputs words steps = words
