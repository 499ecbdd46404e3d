use Rattle.step_laws.proofs.Stepping.{words_of, choices_of}
use Rattle.step_laws.proofs.step_law.words_are_steps.Goals as goal

pub returns-clause-words : goal.returns-clause-words
returns-clause-words c = λ m s i t formed p. words_of m s i t formed p

pub returns-clause-choices : goal.returns-clause-choices
returns-clause-choices c = λ m s i t words rest formed input state is. choices_of m s i t words rest formed input state is
