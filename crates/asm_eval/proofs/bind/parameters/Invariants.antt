use Rattle.std.proofs.Common.{◌≡◌, ◌≤◌, ◌+◌, drop, length}
use Rattle.asm_node.specs.Env.{places_of}
use Rattle.asm_node.specs.Weight.{weight_of}
use Rattle.asm_eval.specs.World.{parameters_at}
use Rattle.asm_eval.proofs.bind.parameters.Given as goal

-- the parameters from a place on are bound
abbrev pub invariant-loop-left : goal.invariant-loop-left
invariant-loop-left l = record {
  few_variables : l.left ≤ length l.variables;
  few_values : l.left ≤ length l.values;
  places : places_of l.env ≡ parameters_at (drop l.left l.variables) (drop l.left l.values);
  weight : weight_of l.env + l.left ≤ length l.variables;
}

abbrev pub decreases-loop-left : goal.decreases-loop-left
decreases-loop-left l = l.left
