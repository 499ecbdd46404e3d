use Rattle.std.proofs.Common.{[], ◌+◌, ℕ, ◌∷◌, ◌++◌, refl, ap, ◌∙◌, subst, arith}
use Rattle.std.proofs.lemmas.Option.{slice_get_read}
use Rattle.asm_sign.specs.Indexed.{AreFirsts}
use Rattle.asm_sign.proofs.Slots.{first_le, first_more}
use Rattle.asm_sign.proofs.Firsts.{firsts_none, firsts_more, next_more}
use Rattle.asm_sign.proofs.signature.first_slots.Goals as goal

pub loop-function-init : goal.loop-function-init
loop-function-init c = record {
  are_firsts = firsts_none c.args.domains.now c.args.functions.now c.push.new.numbers.items (c.in_ok-push.ensures ∙ ap (λ xs. xs ++ 0 ∷ []) c.new-firsts.ensures.items);
  next_is = refl;
}

pub loop-function-preserved : goal.loop-function-preserved
loop-function-preserved c =
    let i = c.loop-function.function-index in
    let at = slice_get_read c.args.functions.now _ i c.function-item.result refl c.loop-function-test.true c.function-item.is in
    record {
      are_firsts = firsts_more c.args.domains.now c.args.functions.now i c.loop-function.next c.locations_in-next.result c.function-item.result c.loop-function.firsts.items c.push-in-loop-function.new.numbers.items c.loop-function.invariant.are_firsts c.loop-function.invariant.next_is at c.locations_in-next.ensures.value c.locations_in-next.ensures.distinct c.in_ok-push-2.ensures;
      next_is = next_more c.args.domains.now c.args.functions.now i c.loop-function.next c.locations_in-next.result c.function-item.result c.loop-function.invariant.next_is at c.locations_in-next.ensures.value;
    }

pub locations_in-next-requires-clause-few : goal.locations_in-next-requires-clause-few
locations_in-next-requires-clause-few c =
    let at = slice_get_read c.args.functions.now _ c.loop-function.function-index c.function-item.result refl c.loop-function-test.true c.function-item.is in
    let more = first_more c.args.domains.now c.args.functions.now c.loop-function.function-index c.function-item.result at in
    let le = first_le c.args.domains.now c.args.functions.now (c.loop-function.function-index + 1) in
    let few = c.requires.few in omega (arith, more, le, few)

pub overflow_add-next : goal.overflow_add-next
overflow_add-next c =
    let at = slice_get_read c.args.functions.now _ c.loop-function.function-index c.function-item.result refl c.loop-function-test.true c.function-item.is in
    let more = next_more c.args.domains.now c.args.functions.now c.loop-function.function-index c.loop-function.next c.locations_in-next.result c.function-item.result c.loop-function.invariant.next_is at c.locations_in-next.ensures.value in
    let le = first_le c.args.domains.now c.args.functions.now (c.loop-function.function-index + 1) in
    let few = c.requires.few in omega (arith, more, le, few)

pub returns : goal.returns
returns c = subst (λ (n : ℕ). AreFirsts c.args.domains.now c.args.functions.now n c.loop-function.firsts.items) (omega arith) c.loop-function.invariant.are_firsts
