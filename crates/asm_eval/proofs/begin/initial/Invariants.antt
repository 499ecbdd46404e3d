use Rattle.std.proofs.Common.{◌≡◌, drop}
use Rattle.asm_sign.specs.Vocabulary.{locations}
use Rattle.asm_node.specs.Model.{machine_of}
use Rattle.asm_node.specs.Step.{IsState, initial}
use Rattle.asm_eval.proofs.Begun.{begun}
use Rattle.asm_eval.proofs.begin.initial.Given as goal

-- what is left from the store on is the initial state
abbrev pub invariant-loop-slot : goal.invariant-loop-slot
invariant-loop-slot l = record {
  is_state : IsState (machine_of l.model) l.store;
  begun : initial (machine_of l.model) ≡ begun (machine_of l.model) l.store l.slot (drop l.slot (locations (machine_of l.model).signature));
}
