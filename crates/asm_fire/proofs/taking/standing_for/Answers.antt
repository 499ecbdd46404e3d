use Rattle.std.proofs.Common.{sym, ◌∙◌, arith}
use Rattle.asm_fire.proofs.Firing.{stand-end}
use Rattle.asm_fire.proofs.taking.standing_for.Goals as goal

pub loop-left-init : goal.loop-left-init
loop-left-init c = record {
  few_parameters = omega (arith, c.min-left.ensures);
  few_actuals = omega (arith, c.min-left.ensures);
  places = c.new-env.ensures.places ∙ sym (stand-end _ _ _ _ c.min-left.ensures);
}
