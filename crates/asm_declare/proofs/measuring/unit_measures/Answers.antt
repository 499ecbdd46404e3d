use Rattle.asm_declare.proofs.Sizing.{none_measured, measured_more, measured_all}
use Rattle.asm_declare.proofs.measuring.unit_measures.Goals as goal

pub loop-declaration-init : goal.loop-declaration-init
loop-declaration-init c = none_measured

pub loop-declaration-preserved : goal.loop-declaration-preserved
loop-declaration-preserved c =
    measured_more c.args.number c.args.declarations.now c.loop-declaration.declaration-index c.declaration-item.result c.loop-declaration-test.true c.declaration-item.is c.loop-declaration.invariant c.in_ok-measure.ensures

pub returns : goal.returns
returns c = measured_all c.args.number c.args.declarations.now c.loop-declaration.declaration-index c.loop-declaration-test.false c.loop-declaration.invariant
