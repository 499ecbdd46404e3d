use Rattle.std.proofs.Common.{◌≡◌, ◌∙◌, ap, arith, [], List, length, take, ◌+◌}
use Rattle.cnf_gate.proofs.Growing.{grows_then}
use Rattle.asm_domain.specs.declared.value.Value.{Value}
use Rattle.enc_group.specs.Group.{once, values_in, are_distinct}
use Rattle.enc_group.specs.Merging.{added, covered, fresh}
use Rattle.enc_group.proofs.Groups.{refused, over_more, take_all}
use Rattle.enc_group.proofs.Onces.{once_distinct, covered_few, length_added}
use Rattle.enc_group.proofs.Mergings.{merged_more, merged_means, once_more, once_few, covered_more}
use Rattle.enc_group.proofs.group.merged.Goals as goal

pub loop-entry-preserved : goal.loop-entry-preserved
loop-entry-preserved c =
    let bag = c.args.bag.now in
    let i = c.loop-entry.entry-index in
    let e = c.entry-item.result in
    let was : List Value = values_in c.loop-entry.group in
    let told : fresh was e.value ≡ fresh (once (values_in (take i bag))) e.value = ap (λ xs. fresh xs e.value) c.loop-entry.invariant.merged.values in
    let now : values_in c.merge_value.new.group ≡ added was e.value = c.in_ok-merge_value.ensures.merges.values in
    let cover : covered bag (values_in c.merge_value.new.group) ≡ covered bag (added was e.value) = ap (covered bag) now in
    let long : length (values_in c.merge_value.new.group) ≡ length (added was e.value) = ap (λ (xs : List Value). length xs) now in
    record {
      grows = grows_then _ _ _ [] [] [] [] c.loop-entry.invariant.grows c.merge_value.ensures.grows;
      merged =
          merged_more c.loop-entry.builder c.merge_value.new.builder c.loop-entry.group c.merge_value.new.group bag i e c.merge_value.ensures.grows.holds c.loop-entry.invariant.merged
          c.loop-entry-test.true c.entry-item.is c.in_ok-merge_value.ensures.merges;
      count = omega (arith, c.loop-entry.invariant.count, c.merge_value.ensures.count, told, once_more bag i e c.loop-entry-test.true c.entry-item.is);
      size = omega (arith, c.loop-entry.invariant.size, c.merge_value.ensures.size, covered_more bag was e.value, cover, long);
    }

pub returns-clause-means : goal.returns-clause-means
returns-clause-means c = λ v t o m.
    merged_means c.loop-entry.builder c.loop-entry.group c.args.bag.now c.loop-entry.entry-index c.loop-entry-test.false c.loop-entry.invariant.merged v t o m

pub returns-clause-values : goal.returns-clause-values
returns-clause-values c = c.loop-entry.invariant.merged.values ∙ ap (λ es. once (values_in es)) (take_all c.args.bag.now c.loop-entry.entry-index c.loop-entry-test.false)

pub returns-clause-distinct : goal.returns-clause-distinct
returns-clause-distinct c = ap are_distinct c.loop-entry.invariant.merged.values ∙ once_distinct (values_in (take c.loop-entry.entry-index c.args.bag.now))

pub returns-clause-count : goal.returns-clause-count
returns-clause-count c = omega (arith, c.loop-entry.invariant.count, once_few c.args.bag.now c.loop-entry.entry-index)

pub returns-clause-size : goal.returns-clause-size
returns-clause-size c =
    let long : length (values_in c.loop-entry.group) ≡ length (once (values_in (take c.loop-entry.entry-index c.args.bag.now))) = ap (λ (xs : List Value). length xs) c.loop-entry.invariant.merged.values in
    omega (arith, c.loop-entry.invariant.size, long, once_few c.args.bag.now c.loop-entry.entry-index, covered_few c.args.bag.now (values_in c.loop-entry.group))

pub returns-in_err-merge_value-clause-count : goal.returns-in_err-merge_value-clause-count
returns-in_err-merge_value-clause-count c =
    let bag = c.args.bag.now in
    let i = c.loop-entry.entry-index in
    let e = c.entry-item.result in
    let was : List Value = values_in c.loop-entry.group in
    let told : fresh was e.value ≡ fresh (once (values_in (take i bag))) e.value = ap (λ xs. fresh xs e.value) c.loop-entry.invariant.merged.values in
    let next = once_more bag i e c.loop-entry-test.true c.entry-item.is in
    let few = once_few bag (i + 1) in
    omega (arith, c.loop-entry.invariant.count, c.merge_value.ensures.count, told, next, few)

pub returns-in_err-merge_value-clause-size : goal.returns-in_err-merge_value-clause-size
returns-in_err-merge_value-clause-size c =
    let bag = c.args.bag.now in
    let i = c.loop-entry.entry-index in
    let e = c.entry-item.result in
    let was : List Value = values_in c.loop-entry.group in
    let told : fresh was e.value ≡ fresh (once (values_in (take i bag))) e.value = ap (λ xs. fresh xs e.value) c.loop-entry.invariant.merged.values in
    let next = once_more bag i e c.loop-entry-test.true c.entry-item.is in
    let few = once_few bag (i + 1) in
    let long : length was ≡ length (once (values_in (take i bag))) = ap (λ (xs : List Value). length xs) c.loop-entry.invariant.merged.values in
    let cover = covered_more bag was e.value in
    let most = covered_few bag (added was e.value) in
    let grown = length_added was e.value in
    omega (arith, c.loop-entry.invariant.size, c.merge_value.ensures.size, told, next, few, long, cover, most, grown)

pub returns-in_err-merge_value-clause-too_large : goal.returns-in_err-merge_value-clause-too_large
returns-in_err-merge_value-clause-too_large c =
    let bag = c.args.bag.now in
    let i = c.loop-entry.entry-index in
    let e = c.entry-item.result in
    let was : List Value = values_in c.loop-entry.group in
    let told : fresh was e.value ≡ fresh (once (values_in (take i bag))) e.value = ap (λ xs. fresh xs e.value) c.loop-entry.invariant.merged.values in
    let next = once_more bag i e c.loop-entry-test.true c.entry-item.is in
    let few = once_few bag (i + 1) in
    let long : length was ≡ length (once (values_in (take i bag))) = ap (λ (xs : List Value). length xs) c.loop-entry.invariant.merged.values in
    let cover = covered_more bag was e.value in
    let most = covered_few bag (added was e.value) in
    let grown = length_added was e.value in
    refused c.merge_value.result c.from_residual.result _ c.in_err-merge_value.was c.from_residual.ensures.1 c.merge_value.ensures.too_large
    (over_more _ _ _ _ (omega (arith, c.loop-entry.invariant.count, told, next, few)) (omega (arith, c.loop-entry.invariant.size, told, next, few, long, cover, most, grown)))
