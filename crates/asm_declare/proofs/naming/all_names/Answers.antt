use Rattle.std.proofs.Common.{arith}
use Rattle.asm_declare.proofs.Entering.{none_entered, unit_names_more, unit_names_all}
use Rattle.asm_declare.proofs.naming.all_names.Goals as goal

pub loop-number-init : goal.loop-number-init
loop-number-init c = none_entered

pub loop-number-preserved : goal.loop-number-preserved
loop-number-preserved c =
    unit_names_more c.args.units.now c.loop-number.number c.index-units-number.result (omega arith) c.index-units-number.is c.loop-number.invariant c.in_ok-unit_names.ensures

pub returns : goal.returns
returns c = unit_names_all c.args.units.now c.loop-number.number (omega arith) c.loop-number.invariant
