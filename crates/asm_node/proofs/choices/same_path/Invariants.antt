use Rattle.std.proofs.Common.{◌≡◌, take}
use Rattle.asm_node.proofs.choices.same_path.Given as goal

-- the steps so far are the same
abbrev pub invariant-loop-place : goal.invariant-loop-place
invariant-loop-place l = take l.place l.left ≡ take l.place l.right
