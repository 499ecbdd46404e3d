use Rattle.asm_faults.specs.Files.{names_in_declaration}
use Rattle.asm_declare.proofs.Entering.{none_entered, items_more, items_all}
use Rattle.asm_declare.proofs.naming.declared.Goals as goal

pub loop-declaration-init : goal.loop-declaration-init
loop-declaration-init c = none_entered

pub loop-declaration-preserved : goal.loop-declaration-preserved
loop-declaration-preserved c =
    items_more names_in_declaration c.args.number c.args.declarations.now c.loop-declaration.declaration-index c.declaration-item.result c.loop-declaration-test.true c.declaration-item.is c.loop-declaration.invariant c.in_ok-declaration_names.ensures

pub returns : goal.returns
returns c = items_all names_in_declaration c.args.number c.args.declarations.now c.loop-declaration.declaration-index c.loop-declaration-test.false c.loop-declaration.invariant
