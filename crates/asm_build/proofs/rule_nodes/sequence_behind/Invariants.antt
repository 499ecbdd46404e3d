use Rattle.std.proofs.Common.{◌≡◌, drop}
use Rattle.asm_node.specs.RuleTree.{plain_rule}
use Rattle.asm_build.specs.Made.{HasGrown}
use Rattle.asm_build.specs.MadeRules.{plains_of_rules}
use Rattle.asm_build.specs.RuleParts.{sequence_on}
use Rattle.asm_node.specs.Pool.{rules_of, HasRule}
use Rattle.asm_build.proofs.rule_nodes.sequence_behind.Given as goal

-- what is left, behind what is made, is the whole
abbrev pub invariant-others : goal.invariant-others
invariant-others l = record {
  made : HasRule (rules_of l.maker.pool) l.made.value;
  whole : sequence_on l.fn.place (plain_rule l.made.value) (plains_of_rules (drop l.other-index l.others)) ≡ sequence_on l.fn.place (plain_rule l.fn.first.value) (plains_of_rules l.others);
  grown : HasGrown l.fn.maker l.maker;
}
