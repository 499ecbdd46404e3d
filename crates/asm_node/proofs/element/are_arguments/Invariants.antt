use Rattle.std.proofs.Common.{◌≡◌, drop}
use Rattle.asm_node.specs.Values.{are_arguments}
use Rattle.asm_node.proofs.element.are_arguments.Given as goal

-- those so far are elements
abbrev pub invariant-loop-place : goal.invariant-loop-place
invariant-loop-place l = are_arguments l.domains l.numbers l.values ≡ are_arguments l.domains (drop l.place l.numbers) (drop l.place l.values)
