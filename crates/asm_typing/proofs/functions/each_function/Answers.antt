use Rattle.std.proofs.Common.{refl}
use Rattle.asm_typing.specs.BodyPieces.{body_in}
use Rattle.asm_typing.proofs.Acting.{noted_items_more, noted_items_all}
use Rattle.asm_typing.proofs.functions.each_function.Goals as goal

pub items-init : goal.items-init
items-init c = refl

pub items-preserved : goal.items-preserved
items-preserved c =
    noted_items_more (body_in c.args.known.now c.args.given c.args.unit) c.args.items.now c.items.item-index c.item-item.result c.args.first.now c.items.first c.function_body.new.first c.items-test.true c.item-item.is c.items.invariant c.in_ok-function_body.ensures

pub returns : goal.returns
returns c = noted_items_all (body_in c.args.known.now c.args.given c.args.unit) c.args.items.now c.items.item-index c.args.first.now c.items.first c.items-test.false c.items.invariant
