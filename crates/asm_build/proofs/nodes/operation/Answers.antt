use Rattle.std.proofs.Common.{[], ◌∷◌, ◌++◌, ap, ◌∙◌}
use Rattle.asm_node.specs.Pool.{terms_of}
use Rattle.asm_node.specs.Tree.{Oper, plain_all}
use Rattle.asm_node.proofs.Growing.{children-Oper}
use Rattle.asm_node.proofs.Trees.{plain_kind-Oper}
use Rattle.asm_build.proofs.Growing.{same_tree}
use Rattle.asm_build.proofs.Nesting.{two_held}
use Rattle.asm_build.proofs.nodes.operation.Goals as goal

pub make-requires : goal.make-requires
make-requires c =
    children-Oper _ c.args.op _ (two_held (terms_of c.args.maker.now.pool) c.push.new.self c.push-2.new.self c.args.left c.args.right
    (c.in_ok-push.ensures.ok ∙ ap (λ ts. ts ++ c.args.left ∷ []) c.new-operands.ensures) c.in_ok-push-2.ensures.ok c.requires.left c.requires.right)

pub returns-clause-made : goal.returns-clause-made
returns-clause-made c = same_tree _ _ (λ number agrees.
    plain_kind-Oper c.args.op c.push-2.new.self
    ∙ ap (λ ts. Oper c.args.op (plain_all ts)) (c.in_ok-push-2.ensures.ok ∙ ap (λ ts. ts ++ c.args.right ∷ []) (c.in_ok-push.ensures.ok ∙ ap (λ ts. ts ++ c.args.left ∷ []) c.new-operands.ensures))) c.in_ok-make.ensures.made
