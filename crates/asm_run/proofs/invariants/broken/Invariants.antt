use Rattle.std.proofs.Common.{◌≡◌, suc, drop}
use Rattle.asm_node.specs.Model.{machine_of}
use Rattle.asm_node.specs.Step.{broken, first_false}
use Rattle.asm_run.proofs.invariants.broken.Given as goal

-- no invariant before this one is false
abbrev pub invariant-loop-place : goal.invariant-loop-place
invariant-loop-place l = broken (machine_of l.model) l.state ≡ first_false (machine_of l.model) l.state (suc l.place) (drop l.place (machine_of l.model).invariants)
