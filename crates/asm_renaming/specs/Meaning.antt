-- Machines that mean the same.
use Rattle.std.specs.Prelude.{◌≡◌, ℕ, List}
use Rattle.asm_tree.specs.declared.rule.RawRule.{RawRule}
use Rattle.asm_tree.specs.declared.term.RawTerm.{RawTerm}
use Rattle.asm_tree.specs.declared.unit.LoadedUnit.{LoadedUnit}
use Rattle.asm_faults.specs.At.{Name}
use Rattle.asm_faults.specs.FunctionFaults.{signature_of}
use Rattle.asm_faults.specs.Model.{IsNumbering, machine_of, rule_of, tree_of}
use Rattle.asm_node.specs.Machine.{Machine, State, Input}
use Rattle.asm_node.specs.Step.{initial, next, broken, holds}
use Rattle.asm_node.specs.Term.{val, nowhere}

-- the same locations, initial state, steps and invariants
pub record MeansTheSame (m n : Machine) : Type 0 where
  pub signature : m.signature ≡ n.signature
  pub begins : initial m ≡ initial n
  pub steps : (s : State) (i : Input) (words : List ℕ) → next m s i words m.main ≡ next n s i words n.main
  pub invariants : (s : State) → broken m s ≡ broken n s

-- the machines of files under two numberings of their variables mean the same, and so does each rule and each condition there
pub record NumberingsAgree (units : List LoadedUnit) (number other : Name → ℕ) : Type 0 where
  pub machines : MeansTheSame (machine_of number units) (machine_of other units)
  pub rules : (s : State) (i : Input) (words : List ℕ) (file : ℕ) (r : RawRule) → next (machine_of number units) s i words (rule_of number (signature_of units) units file r) ≡ next (machine_of other units) s i words (rule_of other (signature_of units) units file r)
  pub conditions : (s : State) (t : RawTerm) → holds (machine_of number units) s (tree_of number (signature_of units) t) ≡ holds (machine_of other units) s (tree_of other (signature_of units) t)

-- which numbers variables have makes no difference, if different variables have different ones
abbrev pub NumbersAreFree : Type 0
NumbersAreFree = (units : List LoadedUnit) (number other : Name → ℕ) → IsNumbering number → IsNumbering other → NumberingsAgree units number other

-- over the machine of files a script's rules and conditions mean the same, whichever numbers the variables of the files have and whichever those of the script
pub record ScriptsAgree (units : List LoadedUnit) (number other script other_script : Name → ℕ) : Type 0 where
  pub rules : (s : State) (i : Input) (words : List ℕ) (file : ℕ) (r : RawRule) → next (machine_of number units) s i words (rule_of script (signature_of units) units file r) ≡ next (machine_of other units) s i words (rule_of other_script (signature_of units) units file r)
  pub conditions : (s : State) (i : Input) (t : RawTerm) → val (record { machine = machine_of number units; state = s; input = i }) nowhere (tree_of script (signature_of units) t) ≡ val (record { machine = machine_of other units; state = s; input = i }) nowhere (tree_of other_script (signature_of units) t)

-- the variables of a script may have any numbers, whichever those of the files have
abbrev pub ScriptNumbersAreFree : Type 0
ScriptNumbersAreFree = (units : List LoadedUnit) (number other script other_script : Name → ℕ) → IsNumbering number → IsNumbering other → IsNumbering script → IsNumbering other_script → ScriptsAgree units number other script other_script
