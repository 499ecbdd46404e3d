use Rattle.std.proofs.Common.{sym}
use Rattle.std.proofs.lemmas.List.{append-nil}
use Rattle.asm_typing.specs.BodyPieces.{head_in}
use Rattle.asm_typing.proofs.Acting.{list_items_more, list_items_all}
use Rattle.asm_typing.proofs.collecting.unit_heads.Goals as goal

pub items-init : goal.items-init
items-init c = sym (append-nil c.args.before)

pub items-preserved : goal.items-preserved
items-preserved c =
    list_items_more (head_in c.args.known.now) c.args.items.now c.items.item-index c.item-item.result c.args.before c.items.heads c.in_ok-heads.heads c.items-test.true c.item-item.is c.items.invariant c.in_ok-heads.ensures

pub returns : goal.returns
returns c = list_items_all (head_in c.args.known.now) c.args.items.now c.items.item-index c.args.before c.items.heads c.items-test.false c.items.invariant
