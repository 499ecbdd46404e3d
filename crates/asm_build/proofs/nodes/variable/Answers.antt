use Rattle.std.proofs.Common.{ap, sym}
use Rattle.asm_node.specs.Tree.{Var}
use Rattle.asm_build.proofs.Growing.{same_tree, agrees_back, grown_on}
use Rattle.asm_build.proofs.nodes.variable.Goals as goal

pub returns-clause-made : goal.returns-clause-made
returns-clause-made c = same_tree _ _ (λ number agrees.
    ap Var (sym ((agrees_back number c.in_ok-make.ensures.grown agrees).at c.args.name.now c.in_ok-number.number c.in_ok-number.ensures.number))) c.in_ok-make.ensures.made

pub returns-clause-grown : goal.returns-clause-grown
returns-clause-grown c = grown_on c.in_ok-number.ensures.grown c.in_ok-make.ensures.grown
