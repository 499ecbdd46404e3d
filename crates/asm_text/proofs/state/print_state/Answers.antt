use Rattle.std.proofs.Common.{arith}
use Rattle.asm_text.proofs.Pieces.{ends, done, slots_begin, slots_more, slots_cut, slots_end}
use Rattle.asm_text.proofs.state.print_state.Goals as goal

pub loop-slot-init : goal.loop-slot-init
loop-slot-init g c = slots_begin c.args.signature.now (g.S.Store.state c.args.store.now) c.args.out.now

pub print_kept-requires-clause-kept : goal.print_kept-requires-clause-kept
print_kept-requires-clause-kept g c = c.requires c.loop-slot.slot

pub loop-slot-preserved : goal.loop-slot-preserved
loop-slot-preserved g c =
    let all = c.slots-slot-end.ensures.value in
    slots_more c.args.signature.now (g.S.Store.state c.args.store.now) c.loop-slot.slot _ _ _ (omega (arith, all)) c.loop-slot.invariant c.in_ok-print_kept.ensures.ok

pub returns-in_err-print_kept : goal.returns-in_err-print_kept
returns-in_err-print_kept g c =
    let all = c.slots-slot-end.ensures.value in
    ends _ _ _ _ _ c.from_residual.ensures.1 (slots_cut c.args.signature.now (g.S.Store.state c.args.store.now) c.loop-slot.slot _ _ _ (omega (arith, all)) c.loop-slot.invariant c.in_err-print_kept.ensures.err)

pub returns : goal.returns
returns g c =
    let end = c.loop-slot.auto.slot-end in
    let past = c.loop-slot-test.false in
    let all = c.slots-slot-end.ensures.value in
    done _ _ _ _ _ c.loop-slot.invariant (slots_end c.args.signature.now (g.S.Store.state c.args.store.now) c.loop-slot.slot (omega (arith, end, past, all)))
