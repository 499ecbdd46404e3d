use Rattle.std.proofs.Common.{◌+◌, Some, sym, ap, subst, ◌∙◌, arith}
use Rattle.asm_node.specs.Machine.{State}
use Rattle.asm_node.specs.Step.{with_shared}
use Rattle.asm_run.proofs.Sharing.{IsShared, kept-is, kept-some, shared-all, shared-kept, shared-put, shared-skip, shared-value}
use Rattle.asm_run.proofs.advance.prepare.Goals as goal
use Rattle.asm_run.proofs.advance.prepare.Goals.{then-kept, else-kept}

pub loop-slot-init : goal.loop-slot-init
loop-slot-init c = record { below = λ l lt. absurd (omega (arith, lt)); has_kept = c.requires.room }

pub get-requires : goal.get-requires
get-requires c = kept-some c.args.signature.now c.args.state.now c.loop-slot.slot c.requires.state (sym c.kept.ensures ∙ c.if-kept.true)

pub put-requires : goal.put-requires
put-requires c = kept-some c.args.signature.now c.loop-slot.room c.loop-slot.slot c.loop-slot.invariant.has_kept (sym c.kept.ensures ∙ c.if-kept.true)

pub loop-slot-preserved : goal.loop-slot-preserved
loop-slot-preserved c =
    let v = c.args.signature.now in
    let s = c.args.state.now in
    let slot = c.loop-slot.slot in
    let wanted = with_shared v c.args.input.now s in
    let wants = shared-kept v c.args.input.now s c.requires.state in
    elim c.if-kept.branch [
      | then-kept w ↦
          subst (λ (t : State). IsShared v wanted t (slot + 1)) (sym (w.room-is ∙ w.put.ensures))
          (shared-put v wanted c.loop-slot.room slot w.shared_value-value.result (shared-value v c.args.input.now s slot w.get.result w.get.ensures ∙ ap Some (sym w.shared_value-value.ensures))
          (sym (kept-is _) ∙ sym c.kept.ensures ∙ w.if-kept.true) c.loop-slot.invariant)
      | else-kept w ↦ subst (λ (t : State). IsShared v wanted t (slot + 1)) (sym w.room-is) (shared-skip v wanted c.loop-slot.room slot wants (sym (kept-is _) ∙ sym c.kept.ensures ∙ w.if-kept.false) c.loop-slot.invariant)
    ]

pub returns : goal.returns
returns c =
    let v = c.args.signature.now in
    let s = c.args.state.now in
    shared-all v (with_shared v c.args.input.now s) c.loop-slot.room c.loop-slot.slot (omega (arith, c.loop-slot-test.false, c.slots-slot-end.ensures.value)) (shared-kept v c.args.input.now s c.requires.state) c.loop-slot.invariant
