use Rattle.std.proofs.Common.{◌∙◌, ap, sym, arith, subst, ◌++◌, [], List, take}
use Rattle.std.specs.List.{flat_map}
use Rattle.cnf_gate.proofs.Growing.{grows_then}
use Rattle.asm_domain.specs.declared.value.Value.{Value}
use Rattle.asm_node.specs.Term.{Outcome, branch}
use Rattle.enc_group.specs.Group.{Means, values_in, group_variables}
use Rattle.enc_group.proofs.Groups.{variables_at, under, follows_more, follows_end, take_all}
use Rattle.enc_term.proofs.Branches.{branch_means, branch_within, branch_values, flat_more}
use Rattle.enc_term.proofs.forms.branches.Goals as goal

pub extend-requires-clause-guard : goal.extend-requires-clause-guard
extend-requires-clause-guard c =
    omega (arith, variables_at c.args.keys.now c.loop-key.key-index c.key-item.result c.loop-key-test.true c.key-item.is, c.loop-key.invariant.grows.count, c.requires.keys)

pub extend-requires-clause-group : goal.extend-requires-clause-group
extend-requires-clause-group c =
    omega (arith, ap group_variables c.part.ensures, branch_within c.key-item.result.value c.args.first.now c.args.second.now c.args.other.now c.args.builder.now.count c.requires.first c.requires.second c.requires.other, c.loop-key.invariant.grows.count)

pub loop-key-preserved : goal.loop-key-preserved
loop-key-preserved c =
    let row : Value → List Value = λ x. branch x (values_in c.args.first.now) (values_in c.args.second.now) (values_in c.args.other.now) in
    record {
      grows = grows_then _ _ _ [] [] [] [] c.loop-key.invariant.grows c.extend.ensures.grows;
      means = λ v t p q r mp mq mr.
          let f : Value → Outcome Value = λ x. branch x p q r in
          follows_more v f c.loop-key.bag c.extend.new.bag c.args.keys.now c.loop-key.key-index c.key-item.result c.loop-key-test.true c.key-item.is
          (c.loop-key.invariant.means v (c.extend.ensures.grows.holds v t) p q r mp mq mr)
          (under v c.loop-key.bag c.extend.new.bag c.part.result.now _ (f c.key-item.result.value) (c.in_ok-extend.ensures.means v t)
          (subst (λ g. Means v g (f c.key-item.result.value)) (sym c.part.ensures) (branch_means v c.key-item.result.value c.args.first.now c.args.second.now c.args.other.now p q r mp mq mr)));
      values =
          c.in_ok-extend.ensures.values ∙ ap (λ (xs : List Value). xs ++ values_in c.part.result.now) c.loop-key.invariant.values
          ∙ ap (λ (xs : List Value). flat_map row (values_in (take c.loop-key.key-index c.args.keys.now)) ++ xs) (ap values_in c.part.ensures ∙ branch_values c.key-item.result.value c.args.first.now c.args.second.now c.args.other.now)
          ∙ sym (flat_more row c.args.keys.now c.loop-key.key-index c.key-item.result c.loop-key-test.true c.key-item.is);
      within = c.in_ok-extend.ensures.within;
    }

pub returns-clause-means : goal.returns-clause-means
returns-clause-means c = λ v t o p q r mo mp mq mr.
    follows_end v (λ x. branch x p q r) c.loop-key.bag c.args.keys.now c.loop-key.key-index o c.loop-key-test.false (c.loop-key.invariant.means v t p q r mp mq mr) mo

pub returns-clause-values : goal.returns-clause-values
returns-clause-values c =
    let row : Value → List Value = λ x. branch x (values_in c.args.first.now) (values_in c.args.second.now) (values_in c.args.other.now) in
    c.loop-key.invariant.values ∙ ap (λ es. flat_map row (values_in es)) (take_all c.args.keys.now c.loop-key.key-index c.loop-key-test.false)
