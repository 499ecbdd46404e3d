use Rattle.std.proofs.Common.{◌≡◌, ◌≤◌, drop, length}
use Rattle.asm_node.specs.Machine.{tuples_of}
use Rattle.asm_eval.proofs.tuple.tuples_of.Given as goal

-- the tuples of the binders from a place on
abbrev pub invariant-loop-left : goal.invariant-loop-left
invariant-loop-left l = (l.left ≤ length l.binders) × (l.tuples ≡ tuples_of l.signature (drop l.left l.binders))

abbrev pub decreases-loop-left : goal.decreases-loop-left
decreases-loop-left l = l.left
