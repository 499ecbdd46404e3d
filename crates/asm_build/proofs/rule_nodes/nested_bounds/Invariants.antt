use Rattle.std.proofs.Common.{List, ◌-◌, drop, length}
use Rattle.asm_node.specs.RuleTree.{plain_rule}
use Rattle.asm_faults.specs.At.{Name}
use Rattle.asm_build.specs.Made.{HasGrown, plains}
use Rattle.asm_build.specs.MadeRules.{IsRule}
use Rattle.asm_build.specs.RuleParts.{rule_bounds_from}
use Rattle.asm_build.proofs.rule_nodes.nested_bounds.Given as goal

-- what stands behind the bounds that are done
abbrev pub invariant-done : goal.invariant-done
invariant-done l = record {
  made : (names : List Name) → IsRule l.maker names (λ number units. rule_bounds_from l.fn.place (drop (length l.fn.bounds.terms - l.done) l.fn.bounds.variables) (drop (length l.fn.bounds.terms - l.done) (plains l.fn.bounds.terms)) (plain_rule l.fn.body.value)) l.rest.value;
  grown : HasGrown l.fn.maker l.maker;
}
