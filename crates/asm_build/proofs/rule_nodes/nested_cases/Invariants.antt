use Rattle.std.proofs.Common.{List, ◌-◌, drop, length}
use Rattle.asm_node.specs.Tree.{plain}
use Rattle.asm_node.specs.RuleTree.{plain_rule}
use Rattle.asm_faults.specs.At.{Name}
use Rattle.asm_build.specs.Made.{HasGrown, plains}
use Rattle.asm_build.specs.MadeRules.{IsRule, plains_of_rules}
use Rattle.asm_build.specs.RuleParts.{rule_cases_from}
use Rattle.asm_build.proofs.rule_nodes.nested_cases.Given as goal

-- what stands behind the cases that are done
abbrev pub invariant-done : goal.invariant-done
invariant-done l = record {
  made : (names : List Name) → IsRule l.maker names (λ number units. rule_cases_from l.fn.place (plain l.fn.subject.value) (drop (length l.fn.cases.labels - l.done) (plains l.fn.cases.labels)) (drop (length l.fn.cases.labels - l.done) (plains_of_rules l.fn.cases.rules)) (plain_rule l.fn.other.value)) l.rest.value;
  grown : HasGrown l.fn.maker l.maker;
}
