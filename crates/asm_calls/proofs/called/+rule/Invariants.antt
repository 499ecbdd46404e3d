use Rattle.std.proofs.Common.{◌≡◌, ◌++◌, drop}
use Rattle.std.specs.List.{flat_map}
use Rattle.asm_calls.specs.Called.{rules_in, rules_in_case}
use Rattle.asm_calls.proofs.called.+rule.Given as goal

abbrev pub invariant-each_rule-items : goal.invariant-each_rule-items
invariant-each_rule-items l = l.calls ++ flat_map (rules_in l.rules) (drop l.item-index l.items) ≡ l.initial.calls ++ flat_map (rules_in l.rules) l.items

abbrev pub invariant-rule_cases-items : goal.invariant-rule_cases-items
invariant-rule_cases-items l = l.calls ++ flat_map (rules_in_case l.rules) (drop l.item-index l.items) ≡ l.initial.calls ++ flat_map (rules_in_case l.rules) l.items
