use Rattle.asm_laws.proofs.Continuing.{next_stays}
use Rattle.asm_laws.proofs.extending_law.steps_extend.Goals as goal

pub returns-clause-words : goal.returns-clause-words
returns-clause-words c = λ m s i j e words rule. next_stays m s i j e words rule
