use Rattle.std.proofs.Common.{arith}
use Rattle.asm_declare.proofs.Locating.{none_counted, units_counted_more, units_counted_all}
use Rattle.asm_declare.proofs.locations.all_locations.Goals as goal

pub loop-number-init : goal.loop-number-init
loop-number-init c = none_counted (omega arith)

pub loop-number-preserved : goal.loop-number-preserved
loop-number-preserved c =
    units_counted_more c.args.units.now c.loop-number.number c.index-units-number.result c.slice-declarations.result.now c.slice-declarations.ensures (omega arith) c.index-units-number.is c.loop-number.invariant c.in_ok-locations.ensures

pub returns : goal.returns
returns c = units_counted_all c.args.units.now c.loop-number.number (omega arith) c.loop-number.invariant

pub unit_locations-requires : goal.unit_locations-requires
unit_locations-requires c = c.loop-number.invariant.few
