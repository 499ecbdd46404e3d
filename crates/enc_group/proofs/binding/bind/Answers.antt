use Rattle.std.proofs.Common.{◌≡◌, ◌∙◌, ap, sym, arith, subst, length, ◌+◌, ◌++◌, [], List}
use Rattle.cnf_gate.proofs.Growing.{grows_then}
use Rattle.asm_domain.specs.declared.value.Value.{Value}
use Rattle.enc_group.specs.declared.group.Entry.{Entry}
use Rattle.enc_group.specs.Group.{Means, values_in, group_variables}
use Rattle.enc_group.specs.Binding.{group_at, values_before}
use Rattle.enc_group.proofs.Groups.{refused, over_more, variables_at, follows_more, follows_end, under}
use Rattle.enc_group.proofs.Places.{entries_more, entries_up, values_more}
use Rattle.enc_group.proofs.binding.bind.Goals as goal

pub extend-requires-clause-guard : goal.extend-requires-clause-guard
extend-requires-clause-guard c =
    omega (arith, variables_at c.args.keys.now c.loop-key.key-index c.key-item.result c.loop-key-test.true c.key-item.is, c.loop-key.invariant.grows.count, c.requires.keys)

pub extend-requires-clause-group : goal.extend-requires-clause-group
extend-requires-clause-group c = omega (arith, ap group_variables c.entries_at.ensures, c.requires.groups c.loop-key.place, c.loop-key.invariant.grows.count)

pub returns-in_err-extend-clause-count : goal.returns-in_err-extend-clause-count
returns-in_err-extend-clause-count c =
    omega (arith, c.extend.ensures.count, c.loop-key.invariant.count, ap (λ (es : List Entry). length es) (c.entries_at.ensures ∙ ap (group_at c.args.groups.now) c.loop-key.invariant.place), entries_more c.args.groups.now c.loop-key.key-index, entries_up c.args.groups.now (c.loop-key.key-index + 1) (length c.args.keys.now) (let lt = c.loop-key-test.true in omega arith))

pub returns-in_err-extend-clause-size : goal.returns-in_err-extend-clause-size
returns-in_err-extend-clause-size c =
    omega (arith, c.extend.ensures.size, c.loop-key.invariant.size, ap (λ (es : List Entry). length es) (c.entries_at.ensures ∙ ap (group_at c.args.groups.now) c.loop-key.invariant.place), entries_more c.args.groups.now c.loop-key.key-index, entries_up c.args.groups.now (c.loop-key.key-index + 1) (length c.args.keys.now) (let lt = c.loop-key-test.true in omega arith))

pub returns-in_err-extend-clause-too_large : goal.returns-in_err-extend-clause-too_large
returns-in_err-extend-clause-too_large c =
    let long : length c.entries_at.result.now ≡ length (group_at c.args.groups.now c.loop-key.key-index) = ap (λ (es : List Entry). length es) (c.entries_at.ensures ∙ ap (group_at c.args.groups.now) c.loop-key.invariant.place) in
    let more = entries_more c.args.groups.now c.loop-key.key-index in
    let fewer = entries_up c.args.groups.now (c.loop-key.key-index + 1) (length c.args.keys.now) (let lt = c.loop-key-test.true in omega arith) in
    refused c.extend.result c.from_residual.result _ c.in_err-extend.was c.from_residual.ensures.1 c.extend.ensures.too_large
    (over_more _ _ _ _ (omega (arith, c.loop-key.invariant.count, long, more, fewer)) (omega (arith, c.loop-key.invariant.size, long, more, fewer)))

pub loop-key-preserved : goal.loop-key-preserved
loop-key-preserved c =
    let at : c.entries_at.result.now ≡ group_at c.args.groups.now c.loop-key.key-index = c.entries_at.ensures ∙ ap (group_at c.args.groups.now) c.loop-key.invariant.place in
    let long : length c.entries_at.result.now ≡ length (group_at c.args.groups.now c.loop-key.key-index) = ap (λ (es : List Entry). length es) at in
    record {
      place = omega (arith, c.loop-key.invariant.place);
      grows = grows_then _ _ _ [] [] [] [] c.loop-key.invariant.grows c.extend.ensures.grows;
      means = λ v t f all.
          follows_more v f c.loop-key.bag c.extend.new.bag c.args.keys.now c.loop-key.key-index c.key-item.result c.loop-key-test.true c.key-item.is
          (c.loop-key.invariant.means v (c.extend.ensures.grows.holds v t) f all)
          (under v c.loop-key.bag c.extend.new.bag c.entries_at.result.now _ (f c.key-item.result.value) (c.in_ok-extend.ensures.means v t)
          (subst (λ g. Means v g (f c.key-item.result.value)) (sym at) (all c.loop-key.key-index c.key-item.result c.loop-key-test.true c.key-item.is)));
      values =
          c.in_ok-extend.ensures.values ∙ ap (λ (xs : List Value). xs ++ values_in c.entries_at.result.now) c.loop-key.invariant.values
          ∙ ap (λ (es : List Entry). values_before c.args.groups.now c.loop-key.key-index ++ values_in es) at
          ∙ sym (values_more c.args.groups.now c.loop-key.key-index);
      count = omega (arith, c.extend.ensures.count, c.loop-key.invariant.count, long, entries_more c.args.groups.now c.loop-key.key-index);
      size = omega (arith, c.extend.ensures.size, c.loop-key.invariant.size, long, entries_more c.args.groups.now c.loop-key.key-index);
      within = c.in_ok-extend.ensures.within;
    }

pub returns-clause-means : goal.returns-clause-means
returns-clause-means c = λ v t f o m all.
    follows_end v f c.loop-key.bag c.args.keys.now c.loop-key.key-index o c.loop-key-test.false (c.loop-key.invariant.means v t f all) m
