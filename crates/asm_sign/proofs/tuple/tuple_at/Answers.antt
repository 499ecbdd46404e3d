use Rattle.std.proofs.Common.{◌+◌, ◌<◌, length, map, ap, ◌∙◌, arith}
use Rattle.std.proofs.lemmas.List.{length-map, length_push}
use Rattle.std.proofs.Math.Nat.{mod-lt}
use Rattle.asm_sign.specs.Arguments.{elements_at}
use Rattle.asm_sign.proofs.Bounds.{exact_quotient}
use Rattle.asm_sign.proofs.Steps.{list_at, product_at, element_within, stride_some, told_more, told_all}
use Rattle.asm_sign.proofs.tuple.tuple_at.Goals as goal

pub nonzero_div-rest : goal.nonzero_div-rest
nonzero_div-rest c =
    let lists = map (elements_at c.args.domains.now) c.args.numbers.now in
    let lt : c.loop-number.number-index < length c.args.numbers.now = omega arith in
    let at = list_at c.args.domains.now c.args.numbers.now c.loop-number.number-index c.index-domains-number.result lt (c.requires.declared c.loop-number.number-index 0 lt) in
    let size = c.from-stride.ensures ∙ c.size.ensures.value in
    let some : 0 < c.from-stride.result = omega (arith, c.from-stride.ensures, c.size.ensures.some) in
    stride_some c.loop-number.stride c.from-stride.result _ c.loop-number.rest (c.loop-number.invariant.left ∙ product_at lists c.loop-number.number-index _ c.from-stride.result at size) c.loop-number.invariant.within some

pub element-requires : goal.element-requires
element-requires c =
    let lists = map (elements_at c.args.domains.now) c.args.numbers.now in
    let lt : c.loop-number.number-index < length c.args.numbers.now = omega arith in
    let at = list_at c.args.domains.now c.args.numbers.now c.loop-number.number-index c.index-domains-number.result lt (c.requires.declared c.loop-number.number-index 0 lt) in
    let size = c.from-stride.ensures ∙ c.size.ensures.value in
    let some : 0 < c.from-stride.result = omega (arith, c.from-stride.ensures, c.size.ensures.some) in
    element_within c.loop-number.stride c.from-stride.result _ _ c.loop-number.rest size (c.loop-number.invariant.left ∙ product_at lists c.loop-number.number-index _ c.from-stride.result at size) c.loop-number.invariant.within some

pub nonzero_rem-rest : goal.nonzero_rem-rest
nonzero_rem-rest c =
    let lists = map (elements_at c.args.domains.now) c.args.numbers.now in
    let lt : c.loop-number.number-index < length c.args.numbers.now = omega arith in
    let at = list_at c.args.domains.now c.args.numbers.now c.loop-number.number-index c.index-domains-number.result lt (c.requires.declared c.loop-number.number-index 0 lt) in
    let size = c.from-stride.ensures ∙ c.size.ensures.value in
    let some : 0 < c.from-stride.result = omega (arith, c.from-stride.ensures, c.size.ensures.some) in
    stride_some c.loop-number.stride c.from-stride.result _ c.loop-number.rest (c.loop-number.invariant.left ∙ product_at lists c.loop-number.number-index _ c.from-stride.result at size) c.loop-number.invariant.within some

pub loop-number-preserved : goal.loop-number-preserved
loop-number-preserved c =
    let lists = map (elements_at c.args.domains.now) c.args.numbers.now in
    let i = c.loop-number.number-index in
    let lt : c.loop-number.number-index < length c.args.numbers.now = omega arith in
    let at = list_at c.args.domains.now c.args.numbers.now c.loop-number.number-index c.index-domains-number.result lt (c.requires.declared c.loop-number.number-index 0 lt) in
    let size = c.from-stride.ensures ∙ c.size.ensures.value in
    let some : 0 < c.from-stride.result = omega (arith, c.from-stride.ensures, c.size.ensures.some) in
    let product = c.loop-number.invariant.left ∙ product_at lists c.loop-number.number-index _ c.from-stride.result at size in
    let positive = stride_some c.loop-number.stride c.from-stride.result _ c.loop-number.rest product c.loop-number.invariant.within some in
    let held = c.loop-number.invariant.held in
    record {
      held = ap length c.push_reserved.ensures.items ∙ length_push c.loop-number.args.items _ ∙ ap (λ n. n + 1) held;
      room = c.push_reserved.ensures.capacity ∙ c.loop-number.invariant.room;
      left = exact_quotient c.loop-number.stride c.from-stride.result _ product some;
      within = mod-lt c.loop-number.rest positive;
      told = told_more lists i _ c.from-stride.result c.loop-number.stride c.loop-number.rest c.args.place c.loop-number.args.items c.push_reserved.new.self.items _ at size some c.loop-number.invariant.left c.loop-number.invariant.within c.element.ensures c.push_reserved.ensures.items c.loop-number.invariant.told;
    }

pub returns : goal.returns
returns c =
    let lists = map (elements_at c.args.domains.now) c.args.numbers.now in
    let e = length-map c.args.numbers.now (elements_at c.args.domains.now) in
    told_all lists c.loop-number.number-index c.loop-number.stride c.loop-number.rest c.args.place c.loop-number.args.items (omega arith) c.loop-number.invariant.left c.loop-number.invariant.within c.loop-number.invariant.told
