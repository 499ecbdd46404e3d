use Rattle.std.proofs.Common.{◌+◌, ◌<◌, ◌≤◌, length, map, ◌∙◌, arith}
use Rattle.std.proofs.lemmas.List.{length-map}
use Rattle.std.proofs.lemmas.Option.{slice_get-get_or}
use Rattle.asm_domain.proofs.Elements.{rank_at}
use Rattle.asm_sign.specs.Arguments.{elements_at}
use Rattle.asm_sign.specs.Tuples.{tuples}
use Rattle.asm_sign.proofs.Bounds.{place_more, small_power}
use Rattle.asm_sign.proofs.Picks.{distinct_tuples}
use Rattle.asm_sign.proofs.Steps.{list_at, placed_more, placed_all, place_none, rank_below, rank_found}
use Rattle.asm_sign.proofs.tuple.place_of.Goals as goal

pub returns-in_err-rank : goal.returns-in_err-rank
returns-in_err-rank c =
    let lists = map (elements_at c.args.domains.now) c.args.numbers.now in
    let lt : c.loop-at.at < length c.args.numbers.now = omega arith in
    let same = c.requires.same in
    let lt' : c.loop-at.at < length c.args.args.now = omega arith in
    let at = list_at c.args.domains.now c.args.numbers.now c.loop-at.at c.index-domains-number.result lt (c.requires.declared c.loop-at.at 0 lt) in
    rw c.from_residual.ensures (place_none _ _ c.in_err-rank.ensures.rank lists c.loop-at.at c.args.args.now at (slice_get-get_or c.args.args.now c.loop-at.at _ lt'))

pub overflow_mul-place : goal.overflow_mul-place
overflow_mul-place c =
    let few : c.from.result ≤ 256 = omega (arith, c.from.ensures, c.size.ensures.few) in
    let some : 0 < c.from.result = omega (arith, c.from.ensures, c.size.ensures.some) in
    let more = place_more c.loop-at.place c.from.result 0 c.loop-at.at c.loop-at.invariant.small few some in
    let most = small_power (c.loop-at.at + 1) (omega arith) in omega (arith, more, most)

pub overflow_add-place : goal.overflow_add-place
overflow_add-place c =
    let few : c.from.result ≤ 256 = omega (arith, c.from.ensures, c.size.ensures.few) in
    let below = rank_below _ _ _ c.from.result c.from-in-loop-at.result c.in_ok-rank.ensures.rank (c.from.ensures ∙ c.size.ensures.value) c.from-in-loop-at.ensures in
    let more = place_more c.loop-at.place c.from.result c.from-in-loop-at.result c.loop-at.at c.loop-at.invariant.small few below in
    let most = small_power (c.loop-at.at + 1) (omega arith) in omega (arith, more, most)

pub loop-at-preserved : goal.loop-at-preserved
loop-at-preserved c =
    let lists = map (elements_at c.args.domains.now) c.args.numbers.now in
    let lt : c.loop-at.at < length c.args.numbers.now = omega arith in
    let same = c.requires.same in
    let lt' : c.loop-at.at < length c.args.args.now = omega arith in
    let at = list_at c.args.domains.now c.args.numbers.now c.loop-at.at c.index-domains-number.result lt (c.requires.declared c.loop-at.at 0 lt) in
    let few : c.from.result ≤ 256 = omega (arith, c.from.ensures, c.size.ensures.few) in
    let below = rank_below _ _ _ c.from.result c.from-in-loop-at.result c.in_ok-rank.ensures.rank (c.from.ensures ∙ c.size.ensures.value) c.from-in-loop-at.ensures in
    record {
      small = place_more c.loop-at.place c.from.result c.from-in-loop-at.result c.loop-at.at c.loop-at.invariant.small few below;
      placed = placed_more lists c.loop-at.at _ c.args.args.now c.from.result c.from-in-loop-at.result c.loop-at.place _ at (c.from.ensures ∙ c.size.ensures.value) (slice_get-get_or c.args.args.now c.loop-at.at _ lt') (rank_found _ _ _ c.from-in-loop-at.result c.in_ok-rank.ensures.rank c.from-in-loop-at.ensures) c.loop-at.invariant.placed;
    }

pub returns : goal.returns
returns c =
    let lists = map (elements_at c.args.domains.now) c.args.numbers.now in
    let e = length-map c.args.numbers.now (elements_at c.args.domains.now) in
    let same = c.requires.same in
    rank_at (tuples lists) c.args.args.now (distinct_tuples lists c.requires.distinct) c.loop-at.place (placed_all lists c.loop-at.at c.args.args.now c.loop-at.place (omega arith) (omega arith) c.loop-at.invariant.placed)
