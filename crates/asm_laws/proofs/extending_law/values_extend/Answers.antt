use Rattle.asm_node.specs.Taking.{by_words, by_paths}
use Rattle.asm_laws.proofs.Continuing.{value_stays, gives_stays}
use Rattle.asm_laws.proofs.extending_law.values_extend.Goals as goal

pub returns-clause-terms : goal.returns-clause-terms
returns-clause-terms c = λ w j given e t. value_stays w j given e t

pub returns-clause-words : goal.returns-clause-words
returns-clause-words c = λ w j given r words. gives_stays by_words w j given r words

pub returns-clause-choices : goal.returns-clause-choices
returns-clause-choices c = λ w j given r choosing. gives_stays (by_paths choosing) w j given r tt
