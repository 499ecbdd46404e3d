use Rattle.asm_fire.proofs.Sounding.{rule_is_sound, rule_of_model, main_is_sound}
use Rattle.asm_fire.proofs.sound_law.rules_are_sound.Goals as goal

pub returns-clause-rules : goal.returns-clause-rules
returns-clause-rules c = λ m i input well r is. rule_is_sound m i input well r is

pub returns-clause-main : goal.returns-clause-main
returns-clause-main c = λ model i input. main_is_sound model i input

pub returns-clause-model : goal.returns-clause-model
returns-clause-model c = λ model i input r is. rule_of_model model i input r is
