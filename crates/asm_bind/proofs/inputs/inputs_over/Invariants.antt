use Rattle.std.proofs.Common.{◌≡◌, drop}
use Rattle.std.specs.Prelude.{All}
use Rattle.asm_node.specs.Model.{machine_of}
use Rattle.asm_node.specs.Step.{IsInput}
use Rattle.asm_bind.specs.Given.{step_inputs}
use Rattle.asm_bind.proofs.Listing.{front}
use Rattle.asm_bind.proofs.inputs.inputs_over.Given as goal

-- the inputs so far, with those of the steps that are left, are the whole, and each is an input of the model
abbrev pub invariant-steps : goal.invariant-steps
invariant-steps l = record {
  whole : front l.inputs (step_inputs (machine_of l.model).signature (drop l.step-index l.steps)) ≡ step_inputs (machine_of l.model).signature l.steps;
  inputs : All (IsInput (machine_of l.model)) l.inputs;
}
