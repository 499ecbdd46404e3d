use Rattle.std.proofs.Common.{◌≡◌, take, map}
use Rattle.asm_node.specs.declared.definition.MacroRule.{MacroRule}
use Rattle.asm_node.specs.Parts.{macro_by}
use Rattle.asm_script.specs.Script.{head_of}
use Rattle.asm_script.proofs.tables.heads_of.Given as goal

abbrev pub invariant-rules : goal.invariant-rules
invariant-rules l = l.heads ≡ map (λ (r : MacroRule). head_of l.known (macro_by r)) (take l.rule-index l.rules)
