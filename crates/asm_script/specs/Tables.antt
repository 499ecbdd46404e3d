-- The tables of what a model's names stand for.
use Rattle.std.specs.Prelude.{◌≡◌, List, [], ◌∷◌, Option}
use Rattle.asm_sign.specs.Vocabulary.{Vocabulary}
use Rattle.asm_node.specs.Machine.{Machine}
use Rattle.asm_tree.specs.declared.rule.RawRule.{RawRule}
use Rattle.asm_faults.specs.declared.fault.Fault.{Fault}
use Rattle.asm_faults.specs.At.{Name}
use Rattle.asm_faults.specs.Bodies as bodies
use Rattle.asm_faults.specs.Bodies.{RuleHead}
use Rattle.asm_faults.specs.First.{first_fault}
use Rattle.asm_faults.specs.Ranges as ranges
use Rattle.asm_script.specs.Script.{heads_in, rule_names}

-- what names stand for, the domains of intervals, the rules that may be called, and the names of these
pub record AreTablesOf (m : Machine) (known intervals : Vocabulary) (heads : List RuleHead) (names : List Name) : Type 0 where
  pub known_are : known ≡ m.signature
  pub intervals_are : intervals ≡ m.signature
  pub heads_are : heads ≡ heads_in m
  pub names_are : names ≡ rule_names m

-- what is wrong first with a rule that may call these rules
abbrev pub fault_among : Vocabulary → List RuleHead → RawRule → Option Fault
fault_among v heads r = first_fault (bodies.rule_faults v heads 0 r [] ∷ ranges.rule_faults v 0 r [] ∷ [])
