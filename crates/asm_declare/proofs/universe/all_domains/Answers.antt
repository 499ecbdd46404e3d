use Rattle.std.proofs.Common.{refl}
use Rattle.asm_faults.specs.FunctionFaults.{declared_domain}
use Rattle.asm_declare.proofs.Building.{none_put, units_domains_more, units_domains_all}
use Rattle.asm_declare.proofs.universe.all_domains.Goals as goal

pub loop-loaded-init : goal.loop-loaded-init
loop-loaded-init c = none_put (declared_domain c.args.units.now) c.args.list.now refl

pub loop-loaded-preserved : goal.loop-loaded-preserved
loop-loaded-preserved c =
    units_domains_more (declared_domain c.args.units.now) c.args.list.now c.loop-loaded.list c.unit_domains.new.list c.args.units.now c.loop-loaded.loaded-index c.loaded-item.result c.slice.result.now c.slice.ensures c.loop-loaded-test.true c.loaded-item.is c.loop-loaded.invariant (c.in_ok-unit_domains.ensures c.loop-loaded.loaded-index)

pub returns : goal.returns
returns c = units_domains_all (declared_domain c.args.units.now) c.args.list.now c.loop-loaded.list c.args.units.now c.loop-loaded.loaded-index c.loop-loaded-test.false c.loop-loaded.invariant
