use Rattle.std.proofs.Common.{◌≡◌, drop}
use Rattle.asm_node.specs.Model.{machine_of}
use Rattle.asm_node.specs.Step.{IsInput}
use Rattle.asm_bind.specs.Given.{with_sets, step_input}
use Rattle.asm_bind.proofs.inputs.step_input.Given as goal

-- the input so far, with the settings that are left, is the step's, and it is an input of the model
abbrev pub invariant-sets : goal.invariant-sets
invariant-sets l = record {
  whole : with_sets (machine_of l.model).signature l.input (drop l.set-index l.set-items) ≡ step_input (machine_of l.model).signature l.step;
  input : IsInput (machine_of l.model) l.input;
}
