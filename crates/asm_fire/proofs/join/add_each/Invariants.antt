use Rattle.std.proofs.Common.{◌≡◌, take}
use Rattle.std.specs.FinSet as set
use Rattle.asm_node.specs.UpdateSet.{pair_cmp}
use Rattle.asm_fire.proofs.join.add_each.Given as goal

-- the pairs so far are added
abbrev pub invariant-loop-pair : goal.invariant-loop-pair
invariant-loop-pair l = l.all ≡ set.union l.fn.all (set.from_list {R = pair_cmp} (take l.pair-index l.pair-items))
