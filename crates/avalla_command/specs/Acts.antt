-- What the commands of a scenario do, where blocks are replaced by their commands.
use Rattle.std.specs.Prelude.{ℕ, ⊤, IsTrue, List, map, not, ◌&&◌, ◌||◌}
use Rattle.std.specs.declared.rc.Rc.{Rc}
use Rattle.std.specs.declared.alloc.Global.{Global}
use Rattle.asm_domain.specs.declared.value.Value.{Value}
use Rattle.asm_sign.specs.Vocabulary.{function_at}
use Rattle.asm_node.specs.Machine.{Machine, has_kind, is_shared, is_monitored}
use Rattle.asm_node.specs.RuleTree.{Rule, plain_rule}
use Rattle.asm_node.specs.Step.{may_have}
use Rattle.asm_node.specs.Tree.{Tree, plain}
use Rattle.asm_node.specs.Values.{is_undef}
use Rattle.asm_node.specs.WellFormed.{IsCondition, IsRule}
use Rattle.avalla_command.specs.declared.command.Command.{Command}
use Rattle.avalla_command.specs.declared.command.Command.TheVariants as command

-- what one command does: it gives a slot a value in the pending input, takes steps of the main rule, one or up to the first
-- state in which a condition is true, checks a condition, or takes a step of a rule in place of the main rule
pub data Act : Type 0 where
  Sets : (slot : ℕ) (value : Value) → Act
  Steps : Act
  StepsUntil : (condition : Tree) → Act
  Checks : (condition : Tree) → Act
  Executes : (rule : Rule) → Act

-- what a command of the program does
abbrev pub act_of : Command → Act
act_of (command.Set slot value) = Sets slot value
act_of command.Step = Steps
act_of (command.StepUntil t) = StepsUntil (plain t.value)
act_of (command.Check t) = Checks (plain t.value)
act_of (command.Exec r) = Executes (plain_rule r.value)

abbrev pub acts_of : List (Rc Command Global) → List Act
acts_of commands = map (λ c. act_of c.value) commands

-- an input may give this slot this value
pub record MayBeSet (m : Machine) (slot : ℕ) (value : Value) : Type 0 where
  pub is_asked : IsTrue (has_kind is_monitored (function_at m.signature slot) || has_kind is_shared (function_at m.signature slot))
  pub may_give : IsTrue (not (is_undef value) && may_have m (function_at m.signature slot) value)

-- what is set, tested and taken is the model's
abbrev pub IsAct : Machine → Act → Type 0
IsAct m (Sets slot value) = MayBeSet m slot value
IsAct m Steps = ⊤
IsAct m (StepsUntil t) = IsCondition m t
IsAct m (Checks t) = IsCondition m t
IsAct m (Executes r) = IsRule m r
