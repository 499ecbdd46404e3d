use Rattle.asm_laws.proofs.Needing.{term_answered}
use Rattle.asm_laws.proofs.Unneeded.{words_need, choices_need}
use Rattle.asm_laws.proofs.full_law.full_inputs_suffice.Goals as goal

pub returns-clause-terms : goal.returns-clause-terms
returns-clause-terms c = λ w full e t. term_answered w full e t

pub returns-clause-words : goal.returns-clause-words
returns-clause-words c = λ w full r words. words_need w full r words

pub returns-clause-choices : goal.returns-clause-choices
returns-clause-choices c = λ w full r choosing. choices_need w full r choosing
