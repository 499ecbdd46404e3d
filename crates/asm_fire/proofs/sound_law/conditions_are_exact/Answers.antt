use Rattle.asm_fire.proofs.Sounding.{condition_of_model, invariant_of_model}
use Rattle.asm_fire.proofs.sound_law.conditions_are_exact.Goals as goal

pub returns-clause-conditions : goal.returns-clause-conditions
returns-clause-conditions c = λ model i input t is. condition_of_model model i input t is

pub returns-clause-invariants : goal.returns-clause-invariants
returns-clause-invariants c = λ model i input k t at. invariant_of_model model i input k t at
