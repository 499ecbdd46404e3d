-- Runs as they are printed.
use Rattle.std.specs.Prelude.{◌≡◌, ℕ, zero, suc, ◌+◌, List, [], ◌∷◌, ◌++◌, codes}
use Rattle.asm_node.specs.Machine.{Machine, State, Input}
use Rattle.asm_node.specs.Step.{IsRun}
use Rattle.asm_run.specs.declared.run.RunEnd.TheVariants.{Done}
use Rattle.asm_run.specs.Printed.{Printed, first_input, further_inputs, numbered_state}
use Rattle.asm_text.specs.Texts.{line}

-- the inputs of so many steps; past the last one nothing is given
abbrev pub inputs_of : List Input → ℕ → List Input
inputs_of inputs zero = []
inputs_of inputs (suc steps) = first_input inputs ∷ inputs_of (further_inputs inputs) steps

-- the states with their numbers from this one on, and the end
abbrev pub states_text : Machine → ℕ → List State → List ℕ
states_text m number [] = line (codes "end")
states_text m number (s ∷ states) = numbered_state m number s ++ states_text m (number + 1) states

-- what is printed where all steps are made
abbrev pub printed_states : Machine → ℕ → List State → Printed
printed_states m number states = record { text = states_text m number states; end = Done }

-- what is printed are the states of a run of the model
pub record ShowsRun (m : Machine) (inputs : List Input) (p : Printed) : Type 0 where
  pub states : List State
  pub is_run : IsRun m inputs states
  pub is_shown : p ≡ printed_states m 0 states
