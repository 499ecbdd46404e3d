use Rattle.step_laws.proofs.Running.{run_states}
use Rattle.step_laws.proofs.step_law.runs_have_states.Goals as goal

pub returns : goal.returns
returns c = λ m formed inputs states h. run_states m formed inputs states h
