use Rattle.std.proofs.Common.{◌≡◌, map, take, length}
use Rattle.asm_tree.specs.declared.rule.RawRuleCase.{RawRuleCase}
use Rattle.asm_faults.specs.Model.{tree_of, rule_of}
use Rattle.asm_build.specs.Made.{HasGrown, AreTerms}
use Rattle.asm_build.specs.MadeRules.{AreRules}
use Rattle.asm_build.proofs.rule_nodes.+rule.Given as goal

abbrev pub invariant-rules-raws : goal.invariant-rules-raws
invariant-rules-raws l = record {
  made : AreRules l.maker l.fn.names (λ number units. map (rule_of number l.fn.known units l.fn.file) (take l.raw-index l.raws)) l.made;
  grown : HasGrown l.fn.maker l.maker;
}

abbrev pub invariant-cases_of-items : goal.invariant-cases_of-items
invariant-cases_of-items l = record {
  labels : AreTerms l.maker (λ number. map (λ (c : RawRuleCase). tree_of number l.fn.known c.label) (take l.item-index l.items)) l.labels;
  rules : AreRules l.maker l.fn.names (λ number units. map (λ (c : RawRuleCase). rule_of number l.fn.known units l.fn.file c.rule) (take l.item-index l.items)) l.rules;
  same : length l.labels ≡ length l.rules;
  grown : HasGrown l.fn.maker l.maker;
}
