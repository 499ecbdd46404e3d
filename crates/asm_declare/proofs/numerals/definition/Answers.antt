use Rattle.std.proofs.Common.{refl}
use Rattle.asm_declare.specs.Told.{numbers_in}
use Rattle.asm_declare.proofs.Seeking.{units_none_more, units_one_here, units_none_all}
use Rattle.asm_declare.proofs.numerals.definition.Goals as goal

pub loop-loaded-init : goal.loop-loaded-init
loop-loaded-init c = refl

pub loop-loaded-preserved : goal.loop-loaded-preserved
loop-loaded-preserved c =
    units_none_more c.args.domain.now c.args.units.now c.loop-loaded.loaded-index c.loaded-item.result c.slice.result.now c.slice.ensures c.loop-loaded-test.true c.loaded-item.is c.loop-loaded.invariant (c.in-None.ensures c.loop-loaded.loaded-index)

pub returns-in-Some : goal.returns-in-Some
returns-in-Some c =
    units_one_here c.args.domain.now c.args.units.now c.loop-loaded.loaded-index c.loaded-item.result c.slice.result.now (numbers_in c.in-Some.definition.now) c.slice.ensures c.loop-loaded-test.true c.loaded-item.is c.loop-loaded.invariant (c.in-Some.ensures c.loop-loaded.loaded-index)

pub returns : goal.returns
returns c = units_none_all c.args.domain.now c.args.units.now c.loop-loaded.loaded-index c.loop-loaded-test.false c.loop-loaded.invariant
