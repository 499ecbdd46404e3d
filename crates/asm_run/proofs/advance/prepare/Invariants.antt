use Rattle.asm_node.specs.Step.{with_shared}
use Rattle.asm_run.proofs.Sharing.{IsShared}
use Rattle.asm_run.proofs.advance.prepare.Given as goal

-- the slots before this one have their values
abbrev pub invariant-loop-slot : goal.invariant-loop-slot
invariant-loop-slot l = IsShared l.signature (with_shared l.signature l.input l.state) l.room l.slot
