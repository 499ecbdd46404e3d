use Rattle.step_laws.proofs.Started.{initial_is_state}
use Rattle.step_laws.proofs.step_law.initial_states_are_states.Goals as goal

pub returns : goal.returns
returns c = λ m s is. initial_is_state m s is
