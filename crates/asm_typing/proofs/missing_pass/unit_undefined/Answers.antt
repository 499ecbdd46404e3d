use Rattle.std.proofs.Common.{List, refl}
use Rattle.asm_tree.specs.declared.unit.RawDeclaration.{RawDeclaration}
use Rattle.asm_faults.specs.declared.fault.Fault.{Fault}
use Rattle.asm_typing.specs.BodyPieces.{undefined_at}
use Rattle.asm_typing.proofs.Acting.{noted_items_more, noted_items_all}
use Rattle.asm_typing.proofs.missing_pass.unit_undefined.Goals as goal

pub items-init : goal.items-init
items-init c = refl

pub items-preserved : goal.items-preserved
items-preserved c =
    let f : RawDeclaration → List Fault = λ d. undefined_at c.args.known.now.domains c.args.defined.now (c.args.unit, d) in
    noted_items_more f c.args.items.now c.items.item-index c.item-item.result c.args.first.now c.items.first c.declaration.new.first c.items-test.true c.item-item.is c.items.invariant c.in_ok-declaration.ensures

pub returns : goal.returns
returns c =
    let f : RawDeclaration → List Fault = λ d. undefined_at c.args.known.now.domains c.args.defined.now (c.args.unit, d) in
    noted_items_all f c.args.items.now c.items.item-index c.args.first.now c.items.first c.items-test.false c.items.invariant
