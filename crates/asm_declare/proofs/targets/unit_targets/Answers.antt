use Rattle.std.proofs.Common.{refl}
use Rattle.asm_declare.specs.Targets.{faults_of_definition}
use Rattle.asm_declare.proofs.Targeting.{definitions_more, definitions_all}
use Rattle.asm_declare.proofs.targets.unit_targets.Goals as goal

pub loop-item-init : goal.loop-item-init
loop-item-init c = refl

pub loop-item-preserved : goal.loop-item-preserved
loop-item-preserved c =
    definitions_more (faults_of_definition c.args.measures.now.names c.args.measures.now.measures) c.args.first.now c.loop-item.first c.definition.new.first c.args.number c.args.items.now c.loop-item.item-index c.item-item.result c.loop-item-test.true c.item-item.is c.loop-item.invariant c.in_ok-definition.ensures

pub returns : goal.returns
returns c = definitions_all (faults_of_definition c.args.measures.now.names c.args.measures.now.measures) c.args.first.now c.loop-item.first c.args.number c.args.items.now c.loop-item.item-index c.loop-item-test.false c.loop-item.invariant
