use Rattle.std.proofs.Common.{arith}
use Rattle.asm_state.proofs.Filling.{undefined, undefined_is_state}
use Rattle.asm_state.proofs.map_store.MapStore.new.Goals as goal

pub returns-clause-undefined : goal.returns-clause-undefined
returns-clause-undefined c =
    let end = c.loop-slot.auto.slot-end in
    let past = c.loop-slot-test.false in
    let all = c.slots-slot-end.ensures.value in
    undefined c.args.signature.now c.loop-slot.slot c.loop-slot.entries.items c.loop-slot.invariant (omega (arith, end, past, all))

pub returns-clause-state : goal.returns-clause-state
returns-clause-state c =
    let end = c.loop-slot.auto.slot-end in
    let past = c.loop-slot-test.false in
    let all = c.slots-slot-end.ensures.value in
    undefined_is_state c.args.signature.now _ (undefined c.args.signature.now c.loop-slot.slot c.loop-slot.entries.items c.loop-slot.invariant (omega (arith, end, past, all)))
