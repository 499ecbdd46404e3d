-- What a session holds.
use Rattle.std.specs.Prelude.{◌≡◌, ℕ, Option}
use Rattle.asm_node.specs.Machine.{Machine, State}
use Rattle.asm_node.specs.Step.{IsState, broken}

-- a state of the machine, room for the next one, and the number of the first invariant that is false in the state
pub record IsHeld (m : Machine) (state next : State) (stopped : Option ℕ) : Type 0 where
  pub is_state : IsState m state
  pub has_room : IsState m next
  pub stopped_is : stopped ≡ broken m state
