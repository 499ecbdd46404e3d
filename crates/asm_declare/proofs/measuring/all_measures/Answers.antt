use Rattle.std.proofs.Common.{arith}
use Rattle.asm_declare.proofs.Sizing.{none_measured, units_measured_more, units_measured_all}
use Rattle.asm_declare.proofs.measuring.all_measures.Goals as goal

pub loop-number-init : goal.loop-number-init
loop-number-init c = none_measured

pub loop-number-preserved : goal.loop-number-preserved
loop-number-preserved c =
    units_measured_more c.args.units.now c.loop-number.number c.index-units-number.result c.slice.result.now c.slice.ensures (omega arith) c.index-units-number.is c.loop-number.invariant c.in_ok-unit_measures.ensures

pub returns : goal.returns
returns c = units_measured_all c.args.units.now c.loop-number.number (omega arith) c.loop-number.invariant
