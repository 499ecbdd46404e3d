use Rattle.std.proofs.Common.{List, refl}
use Rattle.asm_tree.specs.declared.unit.RawDefinition.{RawDefinition}
use Rattle.asm_faults.specs.declared.fault.Fault.{Fault}
use Rattle.asm_typing.specs.BodyPieces.{part_faults}
use Rattle.asm_typing.proofs.Acting.{noted_items_more, noted_items_all}
use Rattle.asm_typing.proofs.parts.unit_parts.Goals as goal

pub items-init : goal.items-init
items-init c = refl

pub items-preserved : goal.items-preserved
items-preserved c =
    let f : RawDefinition → List Fault = λ d. part_faults c.args.part c.args.known.now c.args.heads.now c.args.names.now (c.args.unit, d) in
    noted_items_more f c.args.items.now c.items.item-index c.item-item.result c.args.first.now c.items.first c.definition.new.first c.items-test.true c.item-item.is c.items.invariant c.in_ok-definition.ensures

pub returns : goal.returns
returns c =
    let f : RawDefinition → List Fault = λ d. part_faults c.args.part c.args.known.now c.args.heads.now c.args.names.now (c.args.unit, d) in
    noted_items_all f c.args.items.now c.items.item-index c.args.first.now c.items.first c.items-test.false c.items.invariant
