use Rattle.std.proofs.Common.{◌≡◌, ◌≤◌, ℕ, length, false, sym, ap, ◌∙◌}
use native.Mathlib.Omega.{arith}
use Rattle.std.proofs.lemmas.Option.{slice_get_past}
use Rattle.std.specs.FinMap.{remove}
use Rattle.asm_sign.specs.Vocabulary.{Vocabulary, locations, function_at, function_of}
use Rattle.asm_node.specs.Machine.{has_kind, is_shared}
use Rattle.asm_node.proofs.Shared.{all_stay, drop_next, skip_next, all_dropped}
use Rattle.asm_node.proofs.input.Input.drop_shared.Goals as goal
use Rattle.asm_node.proofs.input.Input.drop_shared.Goals.{then-is_shared_slot, else-is_shared_slot}

pub loop-slot-init : goal.loop-slot-init
loop-slot-init c = (c.slots-slot-end.ensures.value, all_stay _ c.args.self.now)

pub loop-slot-preserved : goal.loop-slot-preserved
loop-slot-preserved c = (
  c.loop-slot.invariant.0,
  elim c.if-is_shared_slot.branch [
    | then-is_shared_slot w ↦ w.self-is ∙ w.remove.ensures ∙ ap (λ m. remove m c.loop-slot.slot) c.loop-slot.invariant.1 ∙ drop_next _ c.args.self.now c.loop-slot.slot (sym c.is_shared_slot.ensures ∙ w.if-is_shared_slot.true)
    | else-is_shared_slot w ↦ w.self-is ∙ c.loop-slot.invariant.1 ∙ skip_next _ c.args.self.now c.loop-slot.slot (sym c.is_shared_slot.ensures ∙ w.if-is_shared_slot.false)
  ],
)

no_function : (v : Vocabulary) (q : ℕ) → length (locations v) ≤ q → has_kind is_shared (function_at v q) ≡ false
no_function v q past = ap (λ location. has_kind is_shared (function_of v location)) (slice_get_past (locations v) q past)

pub returns : goal.returns
returns c =
    c.loop-slot.invariant.1
    ∙ all_dropped _ c.args.self.now c.loop-slot.slot (λ q past.
    let over = c.loop-slot-test.false in
    let end = c.loop-slot.invariant.0 in
    no_function c.args.signature.now q (omega arith))
