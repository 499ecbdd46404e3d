-- What the play of a scenario prints, and with which code.
use Rattle.std.specs.Prelude.{◌≡◌, ◌⊎◌, ℕ, List, [], map, Option, Some, None, Result, Ok, Err}
use Rattle.asm_io.specs.Outside.{Files}
use Rattle.asm_source.specs.declared.sources.Source.{Source}
use Rattle.asm_domain.specs.declared.value.Value.{Value}
use Rattle.asm_tree.specs.declared.script.RawCommand.{RawCommand}
use Rattle.asm_tree.specs.declared.script.RawCommand.TheVariants as command
use Rattle.asm_tree.specs.declared.script.RawScenario.{RawScenario}
use Rattle.asm_tree.specs.declared.term.RawName.{RawName}
use Rattle.asm_tree.specs.declared.unit.LoadedUnit.{LoadedUnit}
use Rattle.asm_faults.specs.declared.fault.Fault.{Fault}
use Rattle.asm_faults.specs.Check.{model_fault}
use Rattle.asm_faults.specs.FunctionFaults.{signature_of}
use Rattle.asm_faults.specs.Model.{rule_of, tree_of}
use Rattle.asm_unit.specs.declared.error.LoadError.{LoadError}
use Rattle.asm_unit.specs.Import.{import_name}
use Rattle.asm_unit.specs.Loading.{Outcome, units_in, tokens_in}
use Rattle.asm_unit.specs.Path.{normalised}
use Rattle.avalla_parse.specs.Parsed.{parsed_scenario}
use Rattle.asm_bind.specs.Given.{given_or_name}
use Rattle.asm_renaming.specs.Coded.{code, coded_machine}
use Rattle.asm_resolve.specs.Resolved.{file_of}
use Rattle.avalla_play.specs.declared.playing.Played.{Played}
use Rattle.avalla_play.specs.declared.playing.Played.TheVariants.{Passed, CheckFailed, Stopped, Budget}
use Rattle.avalla_command.specs.Acts.{Act, Sets, Steps, StepsUntil, Checks, Executes}
use Rattle.avalla_play.specs.Printed.{Printed, play_of}
use Rattle.avalla_prepare.specs.declared.error.ScenarioError.{ScenarioError}
use Rattle.avalla_prepare.specs.Prepared.{scenario_fault}
use Rattle.avalla_prepare.specs.Scenario.{commands_met}
use Rattle.asm_cli.specs.Fault.{model_fault_text, scenario_fault_text}
use Rattle.asm_cli.specs.Saying.{Saying, Says, most_input_bytes, read_as, says_outcome}
use Rattle.asm_cli.specs.Words.{PlayPlan}

-- ---- the files of a play

-- what the scenario's file comes to; it is read first
abbrev pub scenario_in : Files → List ℕ → Outcome RawScenario
scenario_in files name = read_as parsed_scenario 0 (tokens_in files most_input_bytes name [])

-- the name of the model that a scenario loads, seen from the folder of the scenario's file
abbrev pub model_named : List ℕ → RawScenario → List ℕ
model_named scenario raw = import_name (normalised scenario) raw.load

-- what the model's files come to, which are read after the scenario's
abbrev pub loaded_by : Files → List ℕ → List Source → RawScenario → Outcome (List LoadedUnit)
loaded_by files scenario sources raw = units_in files (model_named scenario raw) sources

-- ---- what the commands do

abbrev pub setting_act : Result (ℕ × Value) RawName → Act
setting_act (Ok p) = Sets p.0 p.1
setting_act (Err name) = Steps

-- what a command does over the model of these units, where each variable's number is its name's code; no block is left, and a bad setting is told before anything is played
abbrev pub coded_act : List LoadedUnit → RawCommand → Act
coded_act units (command.Set set) = setting_act (given_or_name (signature_of units) set)
coded_act units command.Step = Steps
coded_act units (command.StepUntil t) = StepsUntil (tree_of code (signature_of units) t)
coded_act units (command.Check t) = Checks (tree_of code (signature_of units) t)
coded_act units (command.Exec r) = Executes (rule_of code (signature_of units) units 0 r)
coded_act units (command.ExecBlock name) = Steps

-- what a scenario's commands do, in the order in which they are met
abbrev pub coded_acts : List LoadedUnit → RawScenario → List Act
coded_acts units raw = map (coded_act units) (commands_met raw)

-- ---- what is printed

-- the play of a scenario over the model of these units, of which these files were read
abbrev pub play_under : PlayPlan → List Source → List LoadedUnit → RawScenario → Printed
play_under plan sources units raw = play_of (coded_machine units) sources (coded_acts units raw) plan.choices plan.budget

-- 0 where the scenario passed, 1 where a check failed, 4 after a stop and after a budget that is used up
abbrev pub end_code : Played → ℕ
end_code Passed = 0
end_code (CheckFailed number) = 1
end_code (Stopped e) = 4
end_code Budget = 4

-- what a play prints, and its code
pub record SaysPlay (play : Printed) (text : List ℕ) (code : ℕ) : Type 0 where
  pub text_is : text ≡ play.text
  pub code_is : code ≡ end_code play.end

-- the play of a scenario with which nothing is wrong, or the line of what is wrong with it first
abbrev pub says_prepared : PlayPlan → List Source → List LoadedUnit → RawScenario → Option ScenarioError → Saying
says_prepared plan sources units raw None text code = SaysPlay (play_under plan sources units raw) text code
says_prepared plan sources units raw (Some e) text code = Says (scenario_fault_text sources e) 3 text code

-- the play over a model in which nothing is wrong, or the line of its first fault
abbrev pub says_sound_play : PlayPlan → List Source → List LoadedUnit → RawScenario → Option Fault → Saying
says_sound_play plan sources units raw None text code = says_prepared plan sources units raw (scenario_fault (coded_machine units) 0 raw) text code
says_sound_play plan sources units raw (Some f) text code = Says (model_fault_text sources f.kind f.name (record { file = file_of units f.unit; at = f.at })) 3 text code

-- the play of a scenario over the model of these units
abbrev pub says_loaded : PlayPlan → RawScenario → List Source → List LoadedUnit → Saying
says_loaded plan raw sources units text code = says_sound_play plan sources units raw (model_fault units) text code

-- the play of a scenario, of which this file was read
abbrev pub says_scenario : PlayPlan → Files → List Source → RawScenario → Saying
says_scenario plan files sources raw text code = says_outcome (says_loaded plan raw) (loaded_by files plan.scenario sources raw) text code

-- what the play of a scenario prints: the scenario's file comes first, then its model, then its commands
abbrev pub says_play : PlayPlan → Files → Saying
says_play plan files text code = says_outcome (says_scenario plan files) (scenario_in files plan.scenario) text code

-- ---- how a play is read

-- the model's files of a scenario
abbrev pub loaded_for : Files → PlayPlan → RawScenario → Outcome (List LoadedUnit)
loaded_for files plan raw = loaded_by files plan.scenario (scenario_in files plan.scenario).sources raw

-- the scenario is spelled so, and these are the units of the model that it loads
pub record IsLoaded (plan : PlayPlan) (files : Files) (raw : RawScenario) (units : List LoadedUnit) : Type 0 where
  pub scenario_is : (scenario_in files plan.scenario).end ≡ Ok raw
  pub units_are : (loaded_for files plan raw).end ≡ Ok units

-- these are the units of the model of a scenario
abbrev pub AreUnitsOfPlay : PlayPlan → Files → List LoadedUnit → Type 0
AreUnitsOfPlay plan files units = (raw : RawScenario) × IsLoaded plan files raw units

-- the scenario is spelled so, and these are the units of its model, in which nothing is wrong
pub record IsChecked (plan : PlayPlan) (files : Files) (raw : RawScenario) (units : List LoadedUnit) : Type 0 where
  pub is_loaded : IsLoaded plan files raw units
  pub no_fault : model_fault units ≡ None

-- the fault is that of the scenario's file, or the first of the files of its model
abbrev pub IsFaultOfPlay : PlayPlan → Files → LoadError → Type 0
IsFaultOfPlay plan files fault =
    ((scenario_in files plan.scenario).end ≡ Err fault)
    ⊎ ((raw : RawScenario) × ((scenario_in files plan.scenario).end ≡ Ok raw) × ((loaded_for files plan raw).end ≡ Err fault))
