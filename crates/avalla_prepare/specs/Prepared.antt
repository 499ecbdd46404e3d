-- What a scenario comes to over a model: its commands, or what is wrong with it first.
use Rattle.std.specs.Prelude.{◌≡◌, ℕ, ⊤, Bool as Truth, true, false, List, [], ◌∷◌, Option, Some, None, Result, Ok, Err}
use Rattle.std.specs.List.{flat_map}
use Rattle.asm_source.specs.declared.sources.Place.{Place}
use Rattle.asm_domain.specs.declared.value.Value.{Value}
use Rattle.asm_node.specs.Machine.{Machine}
use Rattle.asm_node.specs.RuleTree.{Rule}
use Rattle.asm_node.specs.Tree.{Tree}
use Rattle.asm_tree.specs.declared.rule.RawRule.{RawRule}
use Rattle.asm_tree.specs.declared.term.RawTerm.{RawTerm}
use Rattle.asm_tree.specs.declared.script.RawCommand.{RawCommand}
use Rattle.asm_tree.specs.declared.script.RawCommand.TheVariants as command
use Rattle.asm_tree.specs.declared.script.RawScenario.{RawScenario}
use Rattle.asm_tree.specs.declared.script.RawSet.{RawSet}
use Rattle.asm_tree.specs.declared.term.RawName.{RawName}
use Rattle.asm_faults.specs.declared.fault.Fault.{Fault}
use Rattle.asm_bind.specs.Given.{given_or_name}
use Rattle.asm_script.specs.Script.{IsConditionOf, IsRuleOf, condition_fault, rule_fault, told_in}
use Rattle.avalla_command.specs.Acts.{Act, Sets, Steps, StepsUntil, Checks, Executes}
use Rattle.avalla_prepare.specs.Scenario.{commands_written, first_of, is_too_long, missing_block}
use Rattle.avalla_prepare.specs.declared.error.ScenarioError.{ScenarioError}
use Rattle.avalla_prepare.specs.declared.error.ScenarioError.TheVariants.{NoBlock, BadSet, Model, TooLong, Memory}

-- the place of a name in the file of this number
abbrev pub place_of : ℕ → RawName → Place
place_of file name = record { file = file; at = name.at }

-- ---- what is wrong

-- a bad setting
abbrev pub set_faults : ℕ → Result (ℕ × Value) RawName → List ScenarioError
set_faults file (Ok p) = []
set_faults file (Err name) = BadSet name.text (place_of file name) ∷ []

-- what is wrong first with a condition or a rule
abbrev pub model_faults : ℕ → Option Fault → List ScenarioError
model_faults file None = []
model_faults file (Some f) = Model (told_in file f) ∷ []

-- what is wrong with a command in the file of this number
abbrev pub command_faults : Machine → ℕ → RawCommand → List ScenarioError
command_faults m file (command.Set set) = set_faults file (given_or_name m.signature set)
command_faults m file command.Step = []
command_faults m file (command.StepUntil t) = model_faults file (condition_fault m.signature t)
command_faults m file (command.Check t) = model_faults file (condition_fault m.signature t)
command_faults m file (command.Exec r) = model_faults file (rule_fault m r)
command_faults m file (command.ExecBlock name) = []

-- after a missing block nothing else is told
abbrev pub or_missing : ℕ → Option RawName → List ScenarioError → Option ScenarioError
or_missing file (Some name) faults = Some (NoBlock name.text (place_of file name))
or_missing file None faults = first_of faults

-- of a scenario that is too long nothing else is told
abbrev pub or_too_long : ℕ → Truth → Option ScenarioError → Option ScenarioError
or_too_long file true fault = Some (TooLong file)
or_too_long file false fault = fault

-- what is wrong first with a scenario over a model: it is too long, a block is missing, or a command isn't right, in the order of the text
abbrev pub scenario_fault : Machine → ℕ → RawScenario → Option ScenarioError
scenario_fault m file s = or_too_long file (is_too_long s) (or_missing file (missing_block s) (flat_map (command_faults m file) (commands_written s)))

-- this is told of what is wrong, where anything is; of want of memory nothing is said
abbrev pub Tells : Option ScenarioError → ScenarioError → Type 0
Tells fault (NoBlock name place) = fault ≡ Some (NoBlock name place)
Tells fault (BadSet name place) = fault ≡ Some (BadSet name place)
Tells fault (Model e) = fault ≡ Some (Model e)
Tells fault (TooLong file) = fault ≡ Some (TooLong file)
Tells fault Memory = Unit {0}

-- ---- what the commands do

-- the setting gives this value to the slot
pub record IsSetting (m : Machine) (set : RawSet) (act : Act) : Type 0 where
  pub slot : ℕ
  pub value : Value
  pub gives : given_or_name m.signature set ≡ Ok (slot, value)
  pub act_is : act ≡ Sets slot value

-- a command with this condition
pub record IsTesting (m : Machine) (raw : RawTerm) (kind : Tree → Act) (act : Act) : Type 0 where
  pub condition : Tree
  pub is_condition : IsConditionOf m.signature raw condition
  pub act_is : act ≡ kind condition

-- a step of this rule
pub record IsExecuting (m : Machine) (file : ℕ) (raw : RawRule) (act : Act) : Type 0 where
  pub rule : Rule
  pub is_rule : IsRuleOf m file raw rule
  pub act_is : act ≡ Executes rule

-- the act is what a command in the file of this number does over the model
abbrev pub IsActOf : Machine → ℕ → RawCommand → Act → Type 0
IsActOf m file (command.Set set) act = IsSetting m set act
IsActOf m file command.Step act = act ≡ Steps
IsActOf m file (command.StepUntil t) act = IsTesting m t StepsUntil act
IsActOf m file (command.Check t) act = IsTesting m t Checks act
IsActOf m file (command.Exec r) act = IsExecuting m file r act
IsActOf m file (command.ExecBlock name) act = ⊥

-- the acts are what commands do, one for each in their order
abbrev pub AreActsOf : Machine → ℕ → List RawCommand → List Act → Type 0
AreActsOf m file [] [] = ⊤
AreActsOf m file (c ∷ cs) (act ∷ acts) = IsActOf m file c act × AreActsOf m file cs acts
AreActsOf m file _ _ = ⊥
