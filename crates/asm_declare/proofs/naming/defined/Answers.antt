use Rattle.asm_faults.specs.Files.{names_in_definition}
use Rattle.asm_declare.proofs.Entering.{none_entered, items_more, items_all}
use Rattle.asm_declare.proofs.naming.defined.Goals as goal

pub loop-definition-init : goal.loop-definition-init
loop-definition-init c = none_entered

pub loop-definition-preserved : goal.loop-definition-preserved
loop-definition-preserved c =
    items_more names_in_definition c.args.number c.args.definitions.now c.loop-definition.definition-index c.definition-item.result c.loop-definition-test.true c.definition-item.is c.loop-definition.invariant c.in_ok-definition_names.ensures

pub returns : goal.returns
returns c = items_all names_in_definition c.args.number c.args.definitions.now c.loop-definition.definition-index c.loop-definition-test.false c.loop-definition.invariant
