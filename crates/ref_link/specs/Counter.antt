-- Counter steps: allowed steps of the concrete model that the abstract model doesn't answer.
use Rattle.asm_node.specs.Machine.{State, Input}
use Rattle.ref_link.specs.Linking.{Linking}
use Rattle.ref_link.specs.Answering.{Allowed, Answered}

-- a step that is allowed beside an abstract state, and that is not answered there
pub record CounterStep (p : Linking) (sa sc : State) (i : Input) (next : State) : Type 0 where
  pub is_allowed : Allowed p sa sc i next
  pub is_unanswered : ¬ Answered p sa i next

-- no step is a counter step
abbrev pub HasNoCounterStep : Linking → Type 0
HasNoCounterStep p = (sa sc : State) (i : Input) (next : State) → ¬ CounterStep p sa sc i next
