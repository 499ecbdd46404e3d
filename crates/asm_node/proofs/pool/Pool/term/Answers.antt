use Rattle.std.proofs.Common.{sym, subst, ◌∙◌}
use Rattle.std.proofs.lemmas.List.{length-map}
use Rattle.asm_node.specs.Pool.{TermsAreBefore}
use Rattle.asm_node.proofs.Pools.{terms_before}
use Rattle.asm_node.proofs.pool.Pool.term.Goals as goal

pub returns-clause-before : goal.returns-clause-before
returns-clause-before c =
    subst (λ node. TermsAreBefore node.id node.kind) (sym c.in_ok-node.ensures.ok)
    (subst (λ n. TermsAreBefore n c.args.kind) (length-map _ _ ∙ sym c.len-id.ensures) (terms_before _ c.args.kind c.requires.children))
