use Rattle.asm_declare.proofs.Sizing.{none_defined, defined_more, defined_all}
use Rattle.asm_declare.proofs.defining.unit_definitions.Goals as goal

pub loop-item-init : goal.loop-item-init
loop-item-init c = none_defined

pub loop-item-preserved : goal.loop-item-preserved
loop-item-preserved c =
    defined_more c.args.number c.args.items.now c.loop-item.item-index c.item-item.result c.loop-item-test.true c.item-item.is c.loop-item.invariant c.in_ok-take.ensures

pub returns : goal.returns
returns c = defined_all c.args.number c.args.items.now c.loop-item.item-index c.loop-item-test.false c.loop-item.invariant
