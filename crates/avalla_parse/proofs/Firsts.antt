-- What settings, the steps of an input file and the commands of a scenario begin with.
use Rattle.std.proofs.Common.{◌≡◌, [], ◌∷◌, refl}
use Rattle.asm_grammar.specs.Grammar.{firsts}
use Rattle.asm_tree.specs.Words.{kind_of}
use Rattle.asm_tree.specs.declared.class.Class.TheVariants as class
use Rattle.asm_tree.specs.Language.{models}
use Rattle.asm_tree.specs.Scripts.{setting, settings, input_step, command, scenario_command_at}

pub begins_setting_is : firsts models setting ≡ kind_of class.Set ∷ []
unfolding setting
begins_setting_is = refl

pub begins_step_is : firsts models input_step ≡ kind_of class.Set ∷ kind_of class.Step ∷ []
unfolding input_step settings setting
begins_step_is = refl

pub begins_command_is : firsts models command ≡ kind_of class.Set ∷ kind_of class.Step ∷ kind_of class.Check ∷ kind_of class.Exec ∷ kind_of class.ExecBlock ∷ []
unfolding command setting
begins_command_is = refl

pub begins_block_or_command_is : firsts models scenario_command_at ≡ kind_of class.Begin ∷ kind_of class.Set ∷ kind_of class.Step ∷ kind_of class.Check ∷ kind_of class.Exec ∷ kind_of class.ExecBlock ∷ []
unfolding scenario_command_at command setting
begins_block_or_command_is = refl
