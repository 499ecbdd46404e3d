-- Steps under named choices.
use Rattle.std.specs.Prelude.{◌≡◌}
use Rattle.asm_node.specs.Machine.{Machine, State, Input}
use Rattle.asm_node.specs.Taking.{Choosing}
use Rattle.asm_node.specs.Step.{Steps}

-- the main rule leads from a state under an input and choices to the next state
pub record Leads (m : Machine) (s : State) (i : Input) (choosing : Choosing) (t : State) : Type 0 where
  pub steps : Steps m s i t
  pub by_choices : steps.choosing ≡ choosing
