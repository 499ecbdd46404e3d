use Rattle.std.proofs.Common.{◌≡◌, ℕ, ◌-◌, ◌<◌, [], length, slice_get, Some, refl, sym, ap, ◌∙◌, subst, arith}
use Rattle.asm_node.specs.Pool.{terms_of, rules_of}
use Rattle.asm_node.specs.Tree.{plain}
use Rattle.asm_node.specs.RuleTree.{If, plain_rule}
use Rattle.asm_build.specs.Forms.{test}
use Rattle.asm_build.proofs.Growing.{grown_on, same_maker, agrees_back, term_stays}
use Rattle.asm_build.proofs.Nesting.{held_at}
use Rattle.asm_build.proofs.RuleGrowing.{same_rule, rule_stays, rule_held, cases_from_last, one_more_case, cases_all}
use Rattle.asm_build.proofs.rule_nodes.nested_cases.Goals as goal

pub done-init : goal.done-init
done-init c = record {
  made = λ names. record {
    is_of_pool = c.requires.other;
    is_tree = λ number units agrees known. sym (cases_from_last c.args.place (plain c.args.subject.now.value) c.args.cases.now.labels c.args.cases.now.rules (plain_rule c.args.other.value) 0 refl);
  };
  grown = same_maker c.args.maker.now;
}

pub done-preserved : goal.done-preserved
done-preserved c =
    let same : length c.slice-labels.result.now ≡ length c.args.cases.now.labels = ap length c.slice-labels.ensures in
    let j : ℕ = (length c.slice-labels.result.now - 1) - c.done.done in
    let e : j ≡ (length c.args.cases.now.labels - 1) - c.done.done = ap (λ n. (n - 1) - c.done.done) same in
    let less : c.done.done < length c.args.cases.now.labels = subst (λ n. c.done.done < n) same c.done-test.true in
    let first : slice_get c.args.cases.now.labels j ≡ Some c.node_at-label.result.now = ap (λ ts. slice_get ts j) (sym c.slice-labels.ensures) ∙ c.node_at-label.ensures in
    let second : slice_get c.args.cases.now.rules j ≡ Some c.rule_at.result.now = ap (λ ts. slice_get ts j) (sym c.slice-rules.ensures) ∙ c.rule_at.ensures in
    record {
      made = λ names. same_rule _ _ (λ number units agrees known.
          ap (If c.args.place (test (plain c.args.subject.now.value) (plain c.node_at-label.result.now.value)) (plain_rule c.rule_at.result.now.value)) ((c.done.invariant.made names).is_tree number units (agrees_back number c.in_ok-rest.ensures.grown agrees) known)
          ∙ one_more_case c.args.place (plain c.args.subject.now.value) c.args.cases.now.labels c.args.cases.now.rules (plain_rule c.args.other.value) c.done.done j c.node_at-label.result.now c.rule_at.result.now less e first second)
          (c.in_ok-rest.ensures.made names);
      grown = grown_on c.done.invariant.grown c.in_ok-rest.ensures.grown;
    }

pub one_case-requires-clause-subject : goal.one_case-requires-clause-subject
one_case-requires-clause-subject c = term_stays c.args.subject.now.value c.done.invariant.grown c.requires.subject

pub one_case-requires-clause-label : goal.one_case-requires-clause-label
one_case-requires-clause-label c =
    let j : ℕ = (length c.slice-labels.result.now - 1) - c.done.done in
    let first : slice_get c.args.cases.now.labels j ≡ Some c.node_at-label.result.now = ap (λ ts. slice_get ts j) (sym c.slice-labels.ensures) ∙ c.node_at-label.ensures in
    term_stays c.node_at-label.result.now.value c.done.invariant.grown (held_at (terms_of c.args.maker.now.pool) c.args.cases.now.labels j c.node_at-label.result.now c.requires.labels first)

pub one_case-requires-clause-taken : goal.one_case-requires-clause-taken
one_case-requires-clause-taken c =
    let j : ℕ = (length c.slice-labels.result.now - 1) - c.done.done in
    let second : slice_get c.args.cases.now.rules j ≡ Some c.rule_at.result.now = ap (λ ts. slice_get ts j) (sym c.slice-rules.ensures) ∙ c.rule_at.ensures in
    rule_stays c.rule_at.result.now.value c.done.invariant.grown (rule_held (rules_of c.args.maker.now.pool) c.args.cases.now.rules j c.rule_at.result.now c.requires.rules second)

pub one_case-requires-clause-rest : goal.one_case-requires-clause-rest
one_case-requires-clause-rest c = (c.done.invariant.made []).is_of_pool

pub returns-clause-made : goal.returns-clause-made
returns-clause-made c names =
    let same : length c.slice-labels.result.now ≡ length c.args.cases.now.labels = ap length c.slice-labels.ensures in
    cases_all c.args.place (plain c.args.subject.now.value) c.args.cases.now.labels c.args.cases.now.rules (plain_rule c.args.other.value) _ c.done.done (omega (arith, same, c.done-test.false, c.done.auto.done-end)) (c.done.invariant.made names)

pub returns-clause-grown : goal.returns-clause-grown
returns-clause-grown c = c.done.invariant.grown
