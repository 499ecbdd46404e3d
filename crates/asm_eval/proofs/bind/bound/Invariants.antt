use Rattle.std.proofs.Common.{◌≡◌, ◌≤◌, ◌+◌, drop, length}
use Rattle.asm_node.specs.Env.{places_of}
use Rattle.asm_node.specs.Term.{put_tuple}
use Rattle.asm_node.specs.Weight.{weight_of}
use Rattle.asm_eval.proofs.bind.bound.Given as goal

-- the variables from a place on are bound
abbrev pub invariant-loop-left : goal.invariant-loop-left
invariant-loop-left l = record {
  few_binders : l.left ≤ length l.binders;
  few_values : l.left ≤ length l.values;
  places : places_of l.bound ≡ put_tuple (drop l.left l.binders) (drop l.left l.values) (places_of l.env);
  weight : weight_of l.bound + l.left ≤ length l.binders + weight_of l.env;
}

abbrev pub decreases-loop-left : goal.decreases-loop-left
decreases-loop-left l = l.left
