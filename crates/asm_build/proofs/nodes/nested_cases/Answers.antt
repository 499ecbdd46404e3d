use Rattle.std.proofs.Common.{◌≡◌, ℕ, ◌-◌, ◌<◌, length, slice_get, Some, refl, sym, ap, ◌∙◌, subst, arith}
use Rattle.asm_node.specs.Pool.{terms_of}
use Rattle.asm_node.specs.Tree.{Cond, plain}
use Rattle.asm_build.specs.Forms.{test}
use Rattle.asm_build.proofs.Growing.{grown_on, same_maker, same_tree, agrees_back, term_stays}
use Rattle.asm_build.proofs.Nesting.{cases_from_last, one_more_case, cases_done, held_at}
use Rattle.asm_build.proofs.nodes.nested_cases.Goals as goal

pub done-init : goal.done-init
done-init c = record {
  made = record { is_of_pool = c.requires.other; is_tree = λ number agrees. sym (cases_from_last (plain c.args.subject.now.value) c.args.cases.now.labels c.args.cases.now.values (plain c.args.other.value) 0 refl) };
  grown = same_maker c.args.maker.now;
}

pub done-preserved : goal.done-preserved
done-preserved c =
    let same : length c.slice-labels.result.now ≡ length c.args.cases.now.labels = ap length c.slice-labels.ensures in
    let j : ℕ = (length c.slice-labels.result.now - 1) - c.done.done in
    let e : j ≡ (length c.args.cases.now.labels - 1) - c.done.done = ap (λ n. (n - 1) - c.done.done) same in
    let less : c.done.done < length c.args.cases.now.labels = subst (λ n. c.done.done < n) same c.done-test.true in
    let first : slice_get c.args.cases.now.labels j ≡ Some c.node_at-label.result.now = ap (λ ts. slice_get ts j) (sym c.slice-labels.ensures) ∙ c.node_at-label.ensures in
    let second : slice_get c.args.cases.now.values j ≡ Some c.node_at.result.now = ap (λ ts. slice_get ts j) (sym c.slice-values.ensures) ∙ c.node_at.ensures in
    record {
      made = same_tree _ _ (λ number agrees.
          ap (Cond (test (plain c.args.subject.now.value) (plain c.node_at-label.result.now.value)) (plain c.node_at.result.now.value)) (c.done.invariant.made.is_tree number (agrees_back number c.in_ok-rest.ensures.grown agrees))
          ∙ one_more_case (plain c.args.subject.now.value) c.args.cases.now.labels c.args.cases.now.values (plain c.args.other.value) c.done.done j c.node_at-label.result.now c.node_at.result.now less e first second)
          c.in_ok-rest.ensures.made;
      grown = grown_on c.done.invariant.grown c.in_ok-rest.ensures.grown;
    }

pub one_case-requires-clause-subject : goal.one_case-requires-clause-subject
one_case-requires-clause-subject c = term_stays c.args.subject.now.value c.done.invariant.grown c.requires.subject

pub one_case-requires-clause-label : goal.one_case-requires-clause-label
one_case-requires-clause-label c =
    let j : ℕ = (length c.slice-labels.result.now - 1) - c.done.done in
    let first : slice_get c.args.cases.now.labels j ≡ Some c.node_at-label.result.now = ap (λ ts. slice_get ts j) (sym c.slice-labels.ensures) ∙ c.node_at-label.ensures in
    term_stays c.node_at-label.result.now.value c.done.invariant.grown (held_at (terms_of c.args.maker.now.pool) c.args.cases.now.labels j c.node_at-label.result.now c.requires.labels first)

pub one_case-requires-clause-value : goal.one_case-requires-clause-value
one_case-requires-clause-value c =
    let j : ℕ = (length c.slice-labels.result.now - 1) - c.done.done in
    let second : slice_get c.args.cases.now.values j ≡ Some c.node_at.result.now = ap (λ ts. slice_get ts j) (sym c.slice-values.ensures) ∙ c.node_at.ensures in
    term_stays c.node_at.result.now.value c.done.invariant.grown (held_at (terms_of c.args.maker.now.pool) c.args.cases.now.values j c.node_at.result.now c.requires.values second)

pub one_case-requires-clause-rest : goal.one_case-requires-clause-rest
one_case-requires-clause-rest c = c.done.invariant.made.is_of_pool

pub returns-clause-made : goal.returns-clause-made
returns-clause-made c =
    let same : length c.slice-labels.result.now ≡ length c.args.cases.now.labels = ap length c.slice-labels.ensures in
    cases_done (plain c.args.subject.now.value) c.args.cases.now.labels c.args.cases.now.values (plain c.args.other.value) _ c.done.done (omega (arith, same, c.done-test.false, c.done.auto.done-end)) c.done.invariant.made

pub returns-clause-grown : goal.returns-clause-grown
returns-clause-grown c = c.done.invariant.grown
