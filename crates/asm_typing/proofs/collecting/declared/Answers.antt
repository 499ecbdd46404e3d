use Rattle.std.proofs.Common.{List, sym}
use Rattle.std.proofs.lemmas.List.{append-nil}
use Rattle.asm_tree.specs.declared.unit.RawDeclaration.{RawDeclaration}
use Rattle.asm_faults.specs.Files.{names_in_declaration}
use Rattle.asm_typing.specs.BodyPieces.{texts_of}
use Rattle.asm_faults.specs.At.{Name}
use Rattle.asm_typing.proofs.Acting.{list_items_more, list_items_all}
use Rattle.asm_typing.proofs.collecting.declared.Goals as goal

pub items-init : goal.items-init
items-init c = sym (append-nil c.args.names.now)

pub items-preserved : goal.items-preserved
items-preserved c =
    let f : RawDeclaration → List Name = λ d. texts_of (names_in_declaration d) in
    list_items_more f c.args.items.now c.items.item-index c.item-item.result c.args.names.now c.items.names c.declaration_names.new.names c.items-test.true c.item-item.is c.items.invariant c.in_ok-declaration_names.ensures

pub returns : goal.returns
returns c =
    let f : RawDeclaration → List Name = λ d. texts_of (names_in_declaration d) in
    list_items_all f c.args.items.now c.items.item-index c.args.names.now c.items.names c.items-test.false c.items.invariant
