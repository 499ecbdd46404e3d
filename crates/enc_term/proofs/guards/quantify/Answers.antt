use Rattle.std.proofs.Common.{◌∙◌, ap, sym, ◌&&◌, map, subst}
use Rattle.std.specs.List.{list_all}
use Rattle.cnf_base.specs.Clauses.{lit_true}
use Rattle.asm_domain.specs.declared.value.Value.{Value}
use Rattle.asm_node.specs.Term.{Outcome, Gives, and_then, guard_values}
use Rattle.asm_node.specs.Values.{quantified}
use Rattle.enc_group.specs.Group.{Means}
use Rattle.enc_term.specs.Guards.{is_decided, answers_are}
use Rattle.enc_term.proofs.Guarding.{all_decided, negated_true, quantified_means}
use Rattle.enc_term.proofs.guards.quantify.Goals as goal

pub returns-clause-means : goal.returns-clause-means
returns-clause-means c = λ v t guard tuples long means.
    let t2 = c.both-3.ensures.grows.holds v t in
    let t1 = c.both-2.ensures.grows.holds v t2 in
    let t0 = c.both.ensures.grows.holds v t1 in
    let tk = c.decided.ensures.grows.holds v t0 in
    let tg = c.and-2.ensures.grows.holds v tk in
    let s3 = c.and.ensures.grows.holds v tg in
    let s2 = c.tested_all-3.ensures.grows.holds v s3 in
    let s1 = c.tested_all-2.ensures.grows.holds v s2 in
    let given = lit_true v c.in_ok-given.given in
    let known = lit_true v c.in_ok-known.known in
    let decision = lit_true v c.in_ok-decision.decision in
    let o : Outcome Value = and_then (guard_values guard tuples) (λ vs. Gives (quantified c.args.quantifier vs)) in
    subst (λ g. Means v g o) (sym (c.in_ok-group.ensures ∙ ap (answers_are c.in_ok-met.met c.in_ok-unmet.unmet c.in_ok-odd.odd) c.have_odd.ensures))
    (quantified_means v c.args.quantifier c.args.groups.now guard tuples c.in_ok-met.met c.in_ok-unmet.unmet c.in_ok-odd.odd given known decision long means
    (c.in_ok-given.ensures.means v tg ∙ ap (list_all (lit_true v)) c.as_slice.ensures.value ∙ all_decided v c.in_ok-givens.givens.items ∙ ap (list_all (λ b. b)) (c.in_ok-givens.ensures.means v s1))
    (c.in_ok-known.ensures.means v tk ∙ ap (list_all (lit_true v)) c.as_slice-2.ensures.value ∙ all_decided v c.in_ok-truths.truths.items ∙ ap (list_all (λ b. b)) (c.in_ok-truths.ensures.means v s2))
    (c.in_ok-decision.ensures.means v t0 ∙ ap (λ ls. is_decided c.args.quantifier (map (lit_true v) ls)) c.as_slice-3.ensures.value ∙ ap (is_decided c.args.quantifier) (c.in_ok-trues.ensures.means v s3))
    (c.in_ok-met.ensures.means v t1)
    (c.in_ok-unmet.ensures.means v t2 ∙ ap (λ b. known && b) (negated_true v c.in_ok-decision.decision c.negated.result c.negated.ensures.value))
    (c.in_ok-odd.ensures.means v t ∙ ap (λ b. given && b) (negated_true v c.in_ok-known.known c.negated-2.result c.negated-2.ensures.value)))
