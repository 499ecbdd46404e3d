use Rattle.std.proofs.Common.{◌∙◌, ap, arith, ◌&&◌, ◌||◌, true, false}
use Rattle.cnf_base.specs.Clauses.{lit_true}
use Rattle.asm_domain.specs.declared.value.Value.TheVariants as value
use Rattle.asm_node.specs.Term.{val}
use Rattle.enc_update.specs.Updates.{has_pair, pair_variables}
use Rattle.enc_rule.specs.Rules.{given_by, inside}
use Rattle.asm_node.specs.declared.path.Step.TheVariants.{Part}
use Rattle.enc_rule.proofs.Branching.{branch_takes, has_pair_both, pair_variables_both}
use Rattle.enc_rule.proofs.guards.if_updates.Goals as goal

pub returns-clause-means : goal.returns-clause-means
returns-clause-means c = λ v t s place g p q m first second.
    let t1 = c.branch_fault.ensures.grows.holds v t in
    let t2 = c.pairs_under-2.ensures.grows.holds v t1 in
    let t3 = c.pairs_under.ensures.grows.holds v t2 in
    let t4 = c.literal_of-2.ensures.grows.holds v t3 in
    branch_takes v place (val s.world s.places g) (given_by (inside s (Part 0)) p) (given_by (inside s (Part 1)) q)
    c.args.first.now.pairs c.args.second.now.pairs c.extend.new.self c.args.first.now.fault c.args.second.now.fault c.in_ok-fault.fault (lit_true v c.in_ok-on.on) (lit_true v c.in_ok-off.off)
    (c.in_ok-on.ensures.means v t4 ∙ m.at (value.Bool true)) (c.in_ok-off.ensures.means v t3 ∙ m.at (value.Bool false)) first second
    (c.in_ok-fault.ensures.means v t)
    (λ l x.
    ap (λ ps. has_pair v ps l x) c.in_ok-extend.ensures.ok ∙ has_pair_both v c.in_ok-pairs.pairs c.slice-3.result.now l x
    ∙ (λ i. (c.in_ok-pairs.ensures.means v t2 l x ∙ ap (λ ps. lit_true v c.in_ok-on.on && has_pair v ps l x) c.slice.ensures) i
    || (ap (λ ps. has_pair v ps l x) c.slice-3.ensures ∙ c.in_ok-others.ensures.means v t1 l x ∙ ap (λ ps. lit_true v c.in_ok-off.off && has_pair v ps l x) c.slice-2.ensures) i))

pub returns-clause-within : goal.returns-clause-within
returns-clause-within c =
    omega (arith, ap pair_variables c.in_ok-extend.ensures.ok, pair_variables_both c.in_ok-pairs.pairs c.slice-3.result.now, ap pair_variables c.slice-3.ensures, c.in_ok-pairs.ensures.within, c.in_ok-others.ensures.within, c.pairs_under-2.ensures.grows.count, c.branch_fault.ensures.grows.count)
