use Rattle.asm_node.specs.Choices.{NoneBefore}
use Rattle.asm_node.proofs.choices.place_of.Given as goal

-- no choice so far is one at the path
abbrev pub invariant-loop-place : goal.invariant-loop-place
invariant-loop-place l = NoneBefore l.choices l.path l.place
