use Rattle.std.proofs.Common.{◌≡◌, drop}
use Rattle.asm_faults.specs.First.{noted}
use Rattle.asm_ranges.specs.Pieces.{rules_measured, rule_cases_measured, all_refused, cases_refused}
use Rattle.asm_ranges.proofs.rule.+rule.Given as goal

abbrev pub invariant-rules-items : goal.invariant-rules-items
invariant-rules-items l = record {
  scope : l.scope ≡ l.initial.scope;
  faults : noted l.first (all_refused (rules_measured l.known l.unit (drop l.item-index l.items)) l.initial.scope) ≡ noted l.initial.first (all_refused (rules_measured l.known l.unit l.items) l.initial.scope);
}

abbrev pub invariant-cases-items : goal.invariant-cases-items
invariant-cases-items l = record {
  scope : l.scope ≡ l.initial.scope;
  faults : noted l.first (cases_refused l.known l.unit (rule_cases_measured l.known l.unit (drop l.item-index l.items)) l.initial.scope) ≡ noted l.initial.first (cases_refused l.known l.unit (rule_cases_measured l.known l.unit l.items) l.initial.scope);
}
