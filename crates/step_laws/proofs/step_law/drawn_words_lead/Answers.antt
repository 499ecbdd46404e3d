use Rattle.step_laws.proofs.Stepping.{drawn_lead}
use Rattle.step_laws.proofs.step_law.drawn_words_lead.Goals as goal

pub returns : goal.returns
returns c = λ m s i choosing t words formed leads draws. drawn_lead m s i choosing t words formed leads draws
