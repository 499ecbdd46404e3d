use Rattle.std.proofs.Common.{sym, ap, ◌∙◌, subst}
use Rattle.asm_node.specs.declared.operator.Op.TheVariants.{Equal}
use Rattle.asm_node.specs.declared.term.Term.{Term}
use Rattle.asm_node.specs.Pool.{terms_of, HasTerm}
use Rattle.asm_node.specs.Tree.{Tree, Cond, Oper, more, none, plain}
use Rattle.asm_build.specs.Forms.{test}
use Rattle.asm_build.proofs.Growing.{grown_on, same_tree, agrees_back, term_stays}
use Rattle.asm_build.proofs.nodes.one_case.Goals as goal

pub operation-requires-clause-left : goal.operation-requires-clause-left
operation-requires-clause-left c = subst (λ (u : Term). HasTerm (terms_of c.args.maker.now.pool) u) (sym c.in_ok-clone.ensures.cases) c.requires.subject

pub operation-requires-clause-right : goal.operation-requires-clause-right
operation-requires-clause-right c = subst (λ (u : Term). HasTerm (terms_of c.args.maker.now.pool) u) (sym c.in_ok-clone-2.ensures.cases) c.requires.label

pub make-requires : goal.make-requires
make-requires c = (
  c.in_ok-guard.ensures.made.is_of_pool,
  subst (λ (u : Term). HasTerm (terms_of c.operation.new.maker.pool) u) (sym c.in_ok-clone-3.ensures.cases) (term_stays c.args.value.now.value c.in_ok-guard.ensures.grown c.requires.value),
  term_stays c.args.rest.value c.in_ok-guard.ensures.grown c.requires.rest,
)

pub returns-clause-made : goal.returns-clause-made
returns-clause-made c = same_tree _ _ (λ number agrees.
    ap (λ (t : Tree). Cond t (plain c.in_ok-clone-3.field-0.value) (plain c.args.rest.value)) (
    c.in_ok-guard.ensures.made.is_tree number (agrees_back number c.in_ok-make.ensures.grown agrees)
    ∙ ap (λ (u : Term). Oper Equal (more (plain u) (more (plain c.in_ok-clone-2.field-0.value) none))) c.in_ok-clone.ensures.cases
    ∙ ap (λ (u : Term). Oper Equal (more (plain c.args.subject.now.value) (more (plain u) none))) c.in_ok-clone-2.ensures.cases)
    ∙ ap (λ (u : Term). Cond (test (plain c.args.subject.now.value) (plain c.args.label.now.value)) (plain u) (plain c.args.rest.value)) c.in_ok-clone-3.ensures.cases) c.in_ok-make.ensures.made

pub returns-clause-grown : goal.returns-clause-grown
returns-clause-grown c = grown_on c.in_ok-guard.ensures.grown c.in_ok-make.ensures.grown
