use Rattle.step_laws.proofs.Running.{leads_once}
use Rattle.step_laws.proofs.step_law.choices_lead_once.Goals as goal

pub returns : goal.returns
returns c = λ m s i choosing t u p q. leads_once m s i choosing t u p q
