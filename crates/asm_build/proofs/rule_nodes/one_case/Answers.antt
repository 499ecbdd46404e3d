use Rattle.std.proofs.Common.{sym, ap, ◌∙◌, subst}
use Rattle.asm_node.specs.declared.operator.Op.TheVariants.{Equal}
use Rattle.asm_node.specs.declared.term.Term.{Term}
use Rattle.asm_node.specs.declared.rule.Rule as of_rule
use Rattle.asm_node.specs.Pool.{terms_of, rules_of, HasTerm, HasRule}
use Rattle.asm_node.specs.Tree.{Tree, Oper, more, none, plain}
use Rattle.asm_node.specs.RuleTree.{If, plain_rule}
use Rattle.asm_build.specs.Forms.{test}
use Rattle.asm_build.proofs.Growing.{grown_on, agrees_back}
use Rattle.asm_build.proofs.RuleGrowing.{same_rule, rule_stays}
use Rattle.asm_build.proofs.rule_nodes.one_case.Goals as goal

pub operation-requires-clause-left : goal.operation-requires-clause-left
operation-requires-clause-left c = subst (λ (u : Term). HasTerm (terms_of c.args.maker.now.pool) u) (sym c.in_ok-clone.ensures.cases) c.requires.subject

pub operation-requires-clause-right : goal.operation-requires-clause-right
operation-requires-clause-right c = subst (λ (u : Term). HasTerm (terms_of c.args.maker.now.pool) u) (sym c.in_ok-clone-2.ensures.cases) c.requires.label

pub make-requires : goal.make-requires
make-requires c = (
  c.in_ok-guard.ensures.made.is_of_pool,
  subst (λ (u : of_rule.Rule). HasRule (rules_of c.operation.new.maker.pool) u) (sym c.in_ok-clone-3.ensures.cases) (rule_stays c.args.taken.now.value c.in_ok-guard.ensures.grown c.requires.taken),
  rule_stays c.args.rest.value c.in_ok-guard.ensures.grown c.requires.rest,
)

pub returns-clause-made : goal.returns-clause-made
returns-clause-made c names = same_rule _ _ (λ number units agrees known.
    ap (λ (t : Tree). If c.args.place t (plain_rule c.in_ok-clone-3.field-0.value) (plain_rule c.args.rest.value)) (
    c.in_ok-guard.ensures.made.is_tree number (agrees_back number c.in_ok-make.ensures.grown agrees)
    ∙ ap (λ (u : Term). Oper Equal (more (plain u) (more (plain c.in_ok-clone-2.field-0.value) none))) c.in_ok-clone.ensures.cases
    ∙ ap (λ (u : Term). Oper Equal (more (plain c.args.subject.now.value) (more (plain u) none))) c.in_ok-clone-2.ensures.cases)
    ∙ ap (λ (u : of_rule.Rule). If c.args.place (test (plain c.args.subject.now.value) (plain c.args.label.now.value)) (plain_rule u) (plain_rule c.args.rest.value)) c.in_ok-clone-3.ensures.cases) (c.in_ok-make.ensures.made names)

pub returns-clause-grown : goal.returns-clause-grown
returns-clause-grown c = grown_on c.in_ok-guard.ensures.grown c.in_ok-make.ensures.grown
