use Rattle.asm_declare.proofs.Seeking.{units_kept_more, units_kept_all}
use Rattle.asm_declare.proofs.constants.constants.Goals as goal

pub loop-loaded-preserved : goal.loop-loaded-preserved
loop-loaded-preserved c =
    units_kept_more c.args.domain.now c.loop-loaded.names c.unit_constants.new.names c.args.units.now c.loop-loaded.loaded-index c.loaded-item.result c.slice.result.now c.slice.ensures c.loop-loaded-test.true c.loaded-item.is c.loop-loaded.invariant (c.in_ok-unit_constants.ensures c.loop-loaded.loaded-index)

pub returns : goal.returns
returns c = units_kept_all c.args.domain.now c.loop-loaded.names c.args.units.now c.loop-loaded.loaded-index c.loop-loaded-test.false c.loop-loaded.invariant
