use Rattle.std.proofs.Common.{◌≡◌, map, take}
use Rattle.std.specs.declared.rc.Rc.{Rc}
use Rattle.std.specs.declared.alloc.Global.{Global}
use Rattle.asm_node.specs.declared.rule.Rule.{Rule}
use Rattle.asm_node.proofs.pool.copied_rules.Given as goal

-- the nodes so far were copied
abbrev pub invariant-rules : goal.invariant-rules
invariant-rules l = map (λ (x : Rc Rule Global). x.value) l.copied ≡ map (λ (x : Rc Rule Global). x.value) (take l.rule-index l.rules)
