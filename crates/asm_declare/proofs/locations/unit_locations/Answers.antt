use Rattle.asm_declare.proofs.Locating.{none_counted, counted_more, counted_all}
use Rattle.asm_declare.proofs.locations.unit_locations.Goals as goal

pub loop-declaration-init : goal.loop-declaration-init
loop-declaration-init c = none_counted c.requires

pub loop-declaration-preserved : goal.loop-declaration-preserved
loop-declaration-preserved c =
    counted_more c.args.number c.args.declarations.now c.loop-declaration.declaration-index c.declaration-item.result c.loop-declaration-test.true c.declaration-item.is c.loop-declaration.invariant c.in_ok-locations.ensures

pub returns : goal.returns
returns c = counted_all c.args.number c.args.declarations.now c.loop-declaration.declaration-index c.loop-declaration-test.false c.loop-declaration.invariant

pub declared_locations-requires : goal.declared_locations-requires
declared_locations-requires c = c.loop-declaration.invariant.few
