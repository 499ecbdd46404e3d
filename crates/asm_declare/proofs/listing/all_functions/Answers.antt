use Rattle.std.proofs.Common.{refl}
use Rattle.asm_faults.specs.FunctionFaults.{function_of}
use Rattle.asm_declare.proofs.Making.{none_made, units_functions_more, units_functions_all}
use Rattle.asm_declare.proofs.listing.all_functions.Goals as goal

pub loop-loaded-init : goal.loop-loaded-init
loop-loaded-init c = none_made (function_of c.args.numbers.now) c.args.list.now refl

pub loop-loaded-preserved : goal.loop-loaded-preserved
loop-loaded-preserved c =
    units_functions_more (function_of c.args.numbers.now) c.args.list.now c.loop-loaded.list c.unit_functions.new.list c.args.units.now c.loop-loaded.loaded-index c.loaded-item.result c.slice.result.now c.slice.ensures c.loop-loaded-test.true c.loaded-item.is c.loop-loaded.invariant (c.in_ok-unit_functions.ensures c.loop-loaded.loaded-index)

pub returns : goal.returns
returns c = units_functions_all (function_of c.args.numbers.now) c.args.list.now c.loop-loaded.list c.args.units.now c.loop-loaded.loaded-index c.loop-loaded-test.false c.loop-loaded.invariant
