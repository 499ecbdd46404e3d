use Rattle.std.proofs.Common.{◌+◌, ◌<◌, ◌≤◌, length, map, ◌∙◌, arith}
use Rattle.std.proofs.lemmas.List.{length-map}
use Rattle.std.proofs.lemmas.Option.{slice_get_within}
use Rattle.asm_sign.specs.Arguments.{elements_at}
use Rattle.asm_sign.proofs.Bounds.{power_more, small_power, partial}
use Rattle.asm_sign.proofs.Steps.{list_at, all_more, product_at}
use Rattle.asm_sign.proofs.tuple.count_of.Goals as goal

pub overflow_mul-count : goal.overflow_mul-count
overflow_mul-count c =
    let few : c.from-count.result ≤ 256 = omega (arith, c.from-count.ensures, c.size.ensures.few) in
    let more = power_more c.loop-number.count c.from-count.result c.loop-number.number-index c.loop-number.invariant.small few in
    let most = small_power (c.loop-number.number-index + 1) (omega arith) in omega (arith, more, most)

pub loop-number-preserved : goal.loop-number-preserved
loop-number-preserved c =
    let lists = map (elements_at c.args.domains.now) c.args.numbers.now in
    let i = c.loop-number.number-index in
    let lt : c.loop-number.number-index < length c.args.numbers.now = omega arith in
    let at = list_at c.args.domains.now c.args.numbers.now c.loop-number.number-index c.index-domains-number.result lt (c.requires.declared c.loop-number.number-index 0 lt) in
    let size = c.from-count.ensures ∙ c.size.ensures.value in
    let few : c.from-count.result ≤ 256 = omega (arith, c.from-count.ensures, c.size.ensures.few) in
    let value = c.size.ensures.value in
    let positive = c.size.ensures.some in
    record {
      counted = partial c.loop-number.count c.from-count.result _ _ _ c.loop-number.invariant.counted (product_at lists i _ c.from-count.result at size);
      small = power_more c.loop-number.count c.from-count.result i c.loop-number.invariant.small few;
      distinct = all_more lists i _ at (omega arith) c.size.ensures.distinct c.loop-number.invariant.distinct;
    }

pub returns-clause-distinct : goal.returns-clause-distinct
returns-clause-distinct c k xs at =
    let lt = slice_get_within (map (elements_at c.args.domains.now) c.args.numbers.now) k xs at in
    let e = length-map c.args.numbers.now (elements_at c.args.domains.now) in
    c.loop-number.invariant.distinct k xs (omega arith) at
