use Rattle.std.proofs.Common.{◌≡◌, drop}
use Rattle.std.specs.List.{flat_map}
use Rattle.asm_tree.specs.declared.rule.RawRule.{RawRule}
use Rattle.asm_faults.specs.First.{noted}
use Rattle.asm_faults.specs.Bodies.{rule_faults}
use Rattle.asm_typing.specs.RulePieces.{cases_faults}
use Rattle.asm_typing.proofs.rule.+rule.Given as goal

abbrev pub invariant-rules-items : goal.invariant-rules-items
invariant-rules-items l = record {
  scope_stays : l.scope ≡ l.initial.scope;
  rest : noted l.first (flat_map (λ (r : RawRule). rule_faults l.known l.heads l.unit r l.initial.scope) (drop l.item-index l.items)) ≡ noted l.initial.first (flat_map (λ (r : RawRule). rule_faults l.known l.heads l.unit r l.initial.scope) l.items);
}

abbrev pub invariant-cases-items : goal.invariant-cases-items
invariant-cases-items l = record {
  scope_stays : l.scope ≡ l.initial.scope;
  rest : noted l.first (cases_faults l.known l.heads l.unit l.want l.initial.scope (drop l.item-index l.items)) ≡ noted l.initial.first (cases_faults l.known l.heads l.unit l.fn.label l.initial.scope l.items);
}
