use Rattle.std.proofs.Common.{List}
use Rattle.asm_faults.specs.Files.{Of}
use Rattle.asm_tree.specs.declared.unit.RawDefinition.{RawDefinition}
use Rattle.asm_tree.specs.declared.term.RawName.{RawName}
use Rattle.asm_typing.specs.BodyPieces.{Met, met_now, given_name}
use Rattle.asm_typing.proofs.Acting.{met_none, met_items_more, met_items_all}
use Rattle.asm_typing.proofs.collecting.unit_given.Goals as goal

pub items-init : goal.items-init
items-init c = met_none (met_now c.args.first.now c.args.seen.now)

pub items-preserved : goal.items-preserved
items-preserved c =
    let f : RawDefinition → List (Of RawName) = λ d. given_name (c.args.unit, d) in
    let start : Met = met_now c.args.first.now c.args.seen.now in
    let now : Met = met_now c.items.first c.items.seen in
    let next : Met = met_now c.see_given.new.first c.see_given.new.seen in
    met_items_more f c.args.items.now c.items.item-index c.item-item.result start now next c.items-test.true c.item-item.is c.items.invariant c.in_ok-see_given.ensures

pub returns : goal.returns
returns c =
    let f : RawDefinition → List (Of RawName) = λ d. given_name (c.args.unit, d) in
    let start : Met = met_now c.args.first.now c.args.seen.now in
    let now : Met = met_now c.items.first c.items.seen in
    met_items_all f c.args.items.now c.items.item-index start now c.items-test.false c.items.invariant
