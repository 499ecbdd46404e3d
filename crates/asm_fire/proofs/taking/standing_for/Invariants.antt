use Rattle.std.proofs.Common.{◌≡◌, ◌≤◌, drop, length}
use Rattle.asm_node.specs.Env.{places_of}
use Rattle.asm_node.specs.Tree.{plain_all}
use Rattle.asm_node.specs.Taking.{stand_for}
use Rattle.asm_fire.proofs.taking.standing_for.Given as goal

-- the parameters from a place on stand for their terms
abbrev pub invariant-loop-left : goal.invariant-loop-left
invariant-loop-left l = record {
  few_parameters : l.left ≤ length l.parameters;
  few_actuals : l.left ≤ length l.actuals;
  places : places_of l.env ≡ stand_for (drop l.left l.parameters) (places_of l.caller) (plain_all (drop l.left l.actuals));
}

abbrev pub decreases-loop-left : goal.decreases-loop-left
decreases-loop-left l = l.left
