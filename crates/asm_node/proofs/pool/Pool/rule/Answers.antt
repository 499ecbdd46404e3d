use Rattle.std.proofs.Common.{sym, subst, ◌∙◌}
use Rattle.std.proofs.lemmas.List.{length-map}
use Rattle.asm_node.specs.Pool.{PartsAreBefore}
use Rattle.asm_node.proofs.Pools.{parts_before}
use Rattle.asm_node.proofs.pool.Pool.rule.Goals as goal

pub returns-clause-before : goal.returns-clause-before
returns-clause-before c =
    subst (λ node. PartsAreBefore node.id node.kind) (sym c.in_ok-node.ensures.ok)
    (subst (λ n. PartsAreBefore n c.args.kind) (length-map _ _ ∙ sym c.len-id.ensures) (parts_before _ _ c.args.kind c.requires.children))
