use Rattle.std.proofs.Common.{◌≡◌, ◌+◌, List, drop, sym, subst}
use Rattle.std.specs.Prelude.{All}
use Rattle.std.proofs.lemmas.List.Elements.{All-push}
use Rattle.asm_node.specs.Machine.{Input}
use Rattle.asm_node.specs.Model.{machine_of}
use Rattle.asm_node.specs.Step.{IsInput}
use Rattle.asm_bind.specs.Given.{step_inputs}
use Rattle.asm_bind.proofs.Listing.{front, input_met}
use Rattle.asm_bind.proofs.inputs.inputs_over.Goals as goal

pub steps-preserved : goal.steps-preserved
steps-preserved c =
    let m = machine_of c.args.model.now in
    record {
      whole = subst (λ (is : List Input). front is (step_inputs m.signature (drop (c.steps.step-index + 1) c.args.steps.now)) ≡ step_inputs m.signature c.args.steps.now) (sym c.in_ok-push.ensures.ok)
          (input_met m.signature c.steps.inputs c.args.steps.now c.steps.step-index c.step-item.result c.steps-test.true c.step-item.is (step_inputs m.signature c.args.steps.now) c.steps.invariant.whole c.in_ok-input.input c.in_ok-input.ensures.binds);
      inputs = subst (λ (is : List Input). All (IsInput m) is) (sym c.in_ok-push.ensures.ok) (All-push (IsInput m) c.steps.inputs c.in_ok-input.input c.steps.invariant.inputs c.in_ok-input.ensures.input);
    }
