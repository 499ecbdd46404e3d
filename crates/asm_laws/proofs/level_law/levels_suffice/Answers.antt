use Rattle.asm_node.specs.Taking.{by_paths}
use Rattle.asm_laws.proofs.Levels.{one_value}
use Rattle.asm_laws.proofs.RuleLevels.{one_outcome}
use Rattle.asm_laws.proofs.level_law.levels_suffice.Goals as goal

pub returns-clause-terms : goal.returns-clause-terms
returns-clause-terms c = λ w t well. one_value w well t

pub returns-clause-words : goal.returns-clause-words
returns-clause-words c = λ w pick r well. one_outcome pick w well r

pub returns-clause-choices : goal.returns-clause-choices
returns-clause-choices c = λ w choosing r well. one_outcome (by_paths choosing) w well r
