-- The parts of a model of the program: as plain lists and trees, and as nodes of its pool.
use Rattle.std.specs.Prelude.{List, map, All}
use Rattle.std.specs.declared.rc.Rc.{Rc}
use Rattle.std.specs.declared.alloc.Global.{Global}
use Rattle.asm_sign.specs.Vocabulary.{Vocabulary}
use Rattle.asm_node.specs.declared.definition.Definition.{Definition}
use Rattle.asm_node.specs.declared.definition.MacroRule.{MacroRule}
use Rattle.asm_node.specs.declared.pool.Pool.{Pool}
use Rattle.asm_node.specs.declared.term.Term.{Term}
use Rattle.asm_node.specs.declared.rule.Rule.{Rule}
use Rattle.asm_node.specs.Tree.{plain}
use Rattle.asm_node.specs.RuleTree.{plain_rule}
use Rattle.asm_node.specs.Machine.{Machine, Macro}
use Rattle.asm_node.specs.Machine as machine
use Rattle.asm_node.specs.Pool.{terms_of, rules_of, HasTerm, HasRule}

abbrev pub defined_by : Definition → machine.Definition
defined_by d = record { function = d.function; parameters = d.variables; body = plain d.term.value }

abbrev pub macro_by : MacroRule → Macro
macro_by r = record { name = r.name; parameters = r.parameters; body = plain_rule r.body.value }

-- the machine of a signature, a main rule, invariants, initial terms, definitions and macro rules
abbrev pub machine_from : Vocabulary → Rc Rule Global → List (Rc Term Global) → List Definition → List Definition → List MacroRule → Machine
machine_from signature main invariants initial_terms definitions rules = record {
  signature = signature;
  definitions = map defined_by definitions;
  initial_terms = map defined_by initial_terms;
  rules = map macro_by rules;
  invariants = map (λ t. plain t.value) invariants;
  main = plain_rule main.value;
}

-- these are nodes of the pool
pub record AreNodes (pool : Pool) (main : Rc Rule Global) (invariants : List (Rc Term Global)) (initial_terms definitions : List Definition) (rules : List MacroRule) : Type 0 where
  pub main_is : HasRule (rules_of pool) main.value
  pub invariants_are : All (λ t. HasTerm (terms_of pool) t.value) invariants
  pub initial_terms_are : All (λ d. HasTerm (terms_of pool) d.term.value) initial_terms
  pub definitions_are : All (λ d. HasTerm (terms_of pool) d.term.value) definitions
  pub rules_are : All (λ r. HasRule (rules_of pool) r.body.value) rules
