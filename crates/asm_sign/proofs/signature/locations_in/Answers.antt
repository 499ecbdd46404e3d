use Rattle.std.proofs.Common.{length, map, sym, ap, ◌∙◌, arith}
use Rattle.asm_sign.specs.Arguments.{elements_at}
use Rattle.asm_sign.specs.Tuples.{tuples}
use Rattle.asm_sign.proofs.Slots.{length_dynamic, length_static, distinct_of}
use Rattle.asm_sign.proofs.signature.locations_in.Goals as goal

pub overflow_cast-result : goal.overflow_cast-result
overflow_cast-result c =
    let dynamic = sym c.is_dynamic.ensures ∙ c.if-is_dynamic.true in
    let e = length_dynamic c.args.domains.now 0 c.args.function.now dynamic in
    let f = c.count_of.ensures.value ∙ ap (λ ns. length (tuples (map (elements_at c.args.domains.now) ns))) c.slice.ensures in
    let few = c.requires.few in omega (arith, e, f, few)

pub returns-then-is_dynamic : goal.returns-then-is_dynamic
returns-then-is_dynamic c =
    let dynamic = sym c.is_dynamic.ensures ∙ c.if-is_dynamic.true in
    let e = length_dynamic c.args.domains.now 0 c.args.function.now dynamic in
    let f = c.count_of.ensures.value ∙ ap (λ ns. length (tuples (map (elements_at c.args.domains.now) ns))) c.slice.ensures in
    record { value = f ∙ sym e; distinct = λ is. distinct_of c.args.domains.now _ _ c.slice.ensures c.count_of.ensures.distinct }

pub returns-else-is_dynamic : goal.returns-else-is_dynamic
returns-else-is_dynamic c =
    let static = sym c.is_dynamic.ensures ∙ c.if-is_dynamic.false in
    let e = length_static c.args.domains.now 0 c.args.function.now static in
    record { value = sym e; distinct = λ is. absurd (cc (is, static)) }
