use Rattle.std.proofs.Common.{◌≡◌, take, map}
use Rattle.asm_node.specs.declared.definition.MacroRule.{MacroRule}
use Rattle.asm_script.proofs.tables.names_of.Given as goal

abbrev pub invariant-rules : goal.invariant-rules
invariant-rules l = l.names ≡ map (λ (r : MacroRule). r.name) (take l.rule-index l.rules)
