use Rattle.std.proofs.Common.{◌≡◌, ℕ, ◌-◌, ◌<◌, [], length, slice_get, Some, refl, sym, ap, ◌∙◌, subst, arith}
use Rattle.asm_node.specs.declared.term.Term.{Term}
use Rattle.asm_node.specs.Pool.{terms_of, HasTerm}
use Rattle.asm_node.specs.Tree.{plain}
use Rattle.asm_node.specs.RuleTree.{Let, plain_rule}
use Rattle.asm_build.proofs.Growing.{grown_on, same_maker, agrees_back, term_stays}
use Rattle.asm_build.proofs.Nesting.{held_at}
use Rattle.asm_build.proofs.RuleGrowing.{same_rule, bounds_from_last, one_more_bound, bounds_all}
use Rattle.asm_build.proofs.rule_nodes.nested_bounds.Goals as goal

pub done-init : goal.done-init
done-init c = record {
  made = λ names. record {
    is_of_pool = c.requires.body;
    is_tree = λ number units agrees known. sym (bounds_from_last c.args.place c.args.bounds.now.variables c.args.bounds.now.terms (plain_rule c.args.body.value) 0 refl);
  };
  grown = same_maker c.args.maker.now;
}

pub done-preserved : goal.done-preserved
done-preserved c =
    let same : length c.slice-terms.result.now ≡ length c.args.bounds.now.terms = ap length c.slice-terms.ensures in
    let j : ℕ = (length c.slice-terms.result.now - 1) - c.done.done in
    let e : j ≡ (length c.args.bounds.now.terms - 1) - c.done.done = ap (λ n. (n - 1) - c.done.done) same in
    let less : c.done.done < length c.args.bounds.now.terms = subst (λ n. c.done.done < n) same c.done-test.true in
    let first : slice_get c.args.bounds.now.variables j ≡ Some c.number_at-variable.result = ap (λ xs. slice_get xs j) (sym c.slice-variables.ensures) ∙ c.number_at-variable.ensures in
    let second : slice_get c.args.bounds.now.terms j ≡ Some c.node_at.result.now = ap (λ ts. slice_get ts j) (sym c.slice-terms.ensures) ∙ c.node_at.ensures in
    record {
      made = λ names. same_rule _ _ (λ number units agrees known.
          ap (λ (u : Term). Let c.args.place c.number_at-variable.result (plain u) (plain_rule c.done.rest.value)) c.in_ok-bound.ensures.cases
          ∙ ap (Let c.args.place c.number_at-variable.result (plain c.node_at.result.now.value)) ((c.done.invariant.made names).is_tree number units (agrees_back number c.in_ok-rest.ensures.grown agrees) known)
          ∙ one_more_bound c.args.place c.args.bounds.now.variables c.args.bounds.now.terms (plain_rule c.args.body.value) c.done.done j c.number_at-variable.result c.node_at.result.now less e first second)
          (c.in_ok-rest.ensures.made names);
      grown = grown_on c.done.invariant.grown c.in_ok-rest.ensures.grown;
    }

pub make-requires : goal.make-requires
make-requires c =
    let j : ℕ = (length c.slice-terms.result.now - 1) - c.done.done in
    let second : slice_get c.args.bounds.now.terms j ≡ Some c.node_at.result.now = ap (λ ts. slice_get ts j) (sym c.slice-terms.ensures) ∙ c.node_at.ensures in (
      subst (λ (u : Term). HasTerm (terms_of c.done.maker.pool) u) (sym c.in_ok-bound.ensures.cases)
          (term_stays c.node_at.result.now.value c.done.invariant.grown (held_at (terms_of c.args.maker.now.pool) c.args.bounds.now.terms j c.node_at.result.now c.requires.terms second)),
      (c.done.invariant.made []).is_of_pool,
    )

pub returns-clause-made : goal.returns-clause-made
returns-clause-made c names =
    let same : length c.slice-terms.result.now ≡ length c.args.bounds.now.terms = ap length c.slice-terms.ensures in
    bounds_all c.args.place c.args.bounds.now.variables c.args.bounds.now.terms (plain_rule c.args.body.value) _ c.done.done (omega (arith, same, c.done-test.false, c.done.auto.done-end)) (c.done.invariant.made names)

pub returns-clause-grown : goal.returns-clause-grown
returns-clause-grown c = c.done.invariant.grown
