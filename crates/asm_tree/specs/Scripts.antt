-- The grammar of input files and of scenarios, in which the words of scenarios are reserved.
use Rattle.std.specs.Prelude.{true, List, [], ◌∷◌}
use Rattle.asm_grammar.specs.Grammar.{Grammar, nothing, both, either, many, shown, opening}
use Rattle.asm_tree.specs.Words.{kind_of}
use Rattle.asm_tree.specs.declared.class.Class.TheVariants as class
use Rattle.asm_tree.specs.declared.term.RawName.{RawName}
use Rattle.asm_tree.specs.declared.unit.RawPath.{RawPath}
use Rattle.asm_tree.specs.declared.script.RawConstant.{RawConstant}
use Rattle.asm_tree.specs.declared.script.RawSet.{RawSet}
use Rattle.asm_tree.specs.declared.script.RawInputs.{RawInputs}
use Rattle.asm_tree.specs.declared.script.RawInputStep.{RawInputStep}
use Rattle.asm_tree.specs.declared.script.RawCommand.{RawCommand}
use Rattle.asm_tree.specs.declared.script.RawCommand.TheVariants as command_of
use Rattle.asm_tree.specs.declared.script.RawScenarioCommand.{RawScenarioCommand}
use Rattle.asm_tree.specs.declared.script.RawScenarioCommand.TheVariants as scenario_command
use Rattle.asm_tree.specs.declared.script.RawScenario.{RawScenario}
use Rattle.asm_tree.specs.Language.{models, token, after, before, name, functions, words, plain_words, Constants}
use Rattle.asm_tree.specs.Terms.{term}
use Rattle.asm_tree.specs.Rules.{rule, constant}
use Rattle.asm_tree.specs.Units.{path}

-- [ "(" const { "," const } ")" ]
unfoldable pub constants : Grammar models (List RawConstant)
constants = either (shown (λ p. p.1) (opening (kind_of class.Open ∷ []) Constants)) (nothing [] [])

abbrev pub set_of : RawName × (List RawConstant × RawConstant) → RawSet
set_of p = record { name = p.0; arguments = p.1.0; value = p.1.1 }

-- set = "set" Fun [ "(" const { "," const } ")" ] ":=" const ";"
unfoldable pub setting : Grammar models RawSet
setting = after class.Set (shown set_of (both (name (functions true)) (both constants (after class.Assign (before (constant true) class.Semicolon)))))

unfoldable pub settings : Grammar models (List RawSet)
settings = many setting

-- [ ";" ]
unfoldable pub semicolon : Grammar models (Unit {0})
semicolon = either (shown (λ t. tt) (token class.Semicolon)) (nothing [] tt)

abbrev pub step_of : List RawSet → RawInputStep
step_of sets = record { sets = sets }

-- { set } "step" [ ";" ]
unfoldable pub input_step : Grammar models RawInputStep
input_step = shown (λ p. step_of p.0) (both settings (after class.Step semicolon))

abbrev pub inputs_of : List RawInputStep → RawInputs
inputs_of steps = record { steps = steps }

-- inputs = { { set } "step" [ ";" ] }
unfoldable pub inputs : Grammar models RawInputs
inputs = shown inputs_of (many input_step)

-- behind "step": "until" term ";" | [ ";" ]
unfoldable pub step_tail : Grammar models RawCommand
step_tail = either (after class.Until (before (shown command_of.StepUntil (term true)) class.Semicolon)) (shown (λ u. command_of.Step) semicolon)

-- a command that is no block
unfoldable pub command : Grammar models RawCommand
command =
    either (shown command_of.Set setting)
    (either (after class.Step step_tail)
    (either (after class.Check (before (shown command_of.Check (term true)) class.Semicolon))
    (either (after class.Exec (before (shown command_of.Exec (rule true)) class.Semicolon))
    (after class.ExecBlock (before (shown command_of.ExecBlock (name plain_words)) class.Semicolon)))))

unfoldable pub commands : Grammar models (List RawCommand)
commands = many command

-- command | "begin" Word { command } "end"
unfoldable pub scenario_command_at : Grammar models RawScenarioCommand
scenario_command_at =
    either (after class.Begin (shown (λ p. scenario_command.Block p.0 p.1) (both (name plain_words) (before commands class.End))))
    (shown scenario_command.Plain command)

unfoldable pub scenario_commands : Grammar models (List RawScenarioCommand)
scenario_commands = many scenario_command_at

abbrev pub scenario_of : RawName × (RawPath × List RawScenarioCommand) → RawScenario
scenario_of p = record { name = p.0; load = p.1.0; commands = p.1.1 }

-- scenario = "scenario" Word "load" path { command }
unfoldable pub scenario : Grammar models RawScenario
scenario = after class.Scenario (shown scenario_of (both (name words) (after class.Load (both path scenario_commands))))
