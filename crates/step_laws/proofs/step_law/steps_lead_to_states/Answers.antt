use Rattle.step_laws.proofs.Stepping.{steps_stay_states}
use Rattle.step_laws.proofs.step_law.steps_lead_to_states.Goals as goal

pub returns : goal.returns
returns c = λ m formed s i t state input p. steps_stay_states m formed s i t state input p
