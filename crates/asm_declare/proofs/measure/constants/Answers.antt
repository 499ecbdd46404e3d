use Rattle.std.proofs.Common.{refl}
use Rattle.asm_declare.proofs.Counting.{units_constants_more, units_constants_all}
use Rattle.asm_declare.proofs.measure.constants.Goals as goal

pub loop-loaded-init : goal.loop-loaded-init
loop-loaded-init c = refl

pub loop-loaded-preserved : goal.loop-loaded-preserved
loop-loaded-preserved c =
    units_constants_more c.args.domain.now c.args.units.now c.loop-loaded.loaded-index c.loaded-item.result c.slice.result.now c.loop-loaded.count c.constants_in-count.result c.loop-loaded-test.true c.loaded-item.is c.slice.ensures c.loop-loaded.invariant (c.constants_in-count.ensures c.loop-loaded.loaded-index)

pub returns : goal.returns
returns c = units_constants_all c.args.domain.now c.args.units.now c.loop-loaded.loaded-index c.loop-loaded.count c.loop-loaded-test.false c.loop-loaded.invariant
