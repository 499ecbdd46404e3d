use Rattle.std.proofs.Common.{◌≡◌, ◌∙◌, ◌+◌, drop, Ok, sym, ap, subst}
use Rattle.asm_sign.specs.Vocabulary.{Vocabulary}
use Rattle.asm_node.specs.Machine.{Input}
use Rattle.asm_node.specs.Model.{machine_of}
use Rattle.asm_node.specs.Step.{IsInput}
use Rattle.asm_bind.specs.Given.{with_sets, step_input, given_or_name}
use Rattle.asm_bind.proofs.Asked.{nothing_is_input, more_is_input, given_is}
use Rattle.asm_bind.proofs.Listing.{set_met, pair_given}
use Rattle.asm_bind.proofs.inputs.step_input.Goals as goal

pub sets-init : goal.sets-init
sets-init c = record {
  whole = (λ k. with_sets (machine_of c.args.model.now).signature (c.new-input.ensures k) (c.slice-set-items.ensures k));
  input = subst (λ (i : Input). IsInput (machine_of c.args.model.now) i) (sym c.new-input.ensures) (nothing_is_input (machine_of c.args.model.now));
}

pub sets-preserved : goal.sets-preserved
sets-preserved c =
    let m = machine_of c.args.model.now in
    let given : given_or_name m.signature c.set-item.result ≡ Ok (c.in_ok-slot.slot, c.in_ok-slot.value) = ap (λ (v : Vocabulary). given_or_name v c.set-item.result) (sym c.requires) ∙ c.in_ok-slot.ensures in
    record {
      whole = subst (λ (i : Input). with_sets m.signature i (drop (c.sets.set-index + 1) c.slice-set-items.result.now) ≡ step_input m.signature c.args.step.now) (sym c.in_ok-set.ensures.ok)
          (set_met m.signature c.sets.input c.slice-set-items.result.now c.sets.set-index c.set-item.result c.sets-test.true c.set-item.is (step_input m.signature c.args.step.now) c.sets.invariant.whole (c.in_ok-slot.slot, c.in_ok-slot.value) given);
      input = subst (λ (i : Input). IsInput m i) (sym c.in_ok-set.ensures.ok)
          (more_is_input m c.sets.input c.in_ok-slot.slot c.in_ok-slot.value c.sets.invariant.input (given_is m c.set-item.result (c.in_ok-slot.slot, c.in_ok-slot.value) (pair_given m.signature c.set-item.result (c.in_ok-slot.slot, c.in_ok-slot.value) given)));
    }
