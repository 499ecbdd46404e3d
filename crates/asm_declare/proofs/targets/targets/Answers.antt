use Rattle.std.proofs.Common.{refl, arith}
use Rattle.asm_declare.specs.Targets.{faults_of_definition}
use Rattle.asm_declare.proofs.Targeting.{units_definitions_more, units_definitions_all}
use Rattle.asm_declare.proofs.targets.targets.Goals as goal

pub loop-number-init : goal.loop-number-init
loop-number-init c = refl

pub loop-number-preserved : goal.loop-number-preserved
loop-number-preserved c =
    units_definitions_more (faults_of_definition c.args.measures.now.names c.args.measures.now.measures) c.args.first.now c.loop-number.first c.unit_targets.new.first c.args.units.now c.loop-number.number c.index-units-number.result c.slice.result.now c.slice.ensures (omega arith) c.index-units-number.is c.loop-number.invariant c.in_ok-unit_targets.ensures

pub returns : goal.returns
returns c = units_definitions_all (faults_of_definition c.args.measures.now.names c.args.measures.now.measures) c.args.first.now c.loop-number.first c.args.units.now c.loop-number.number (omega arith) c.loop-number.invariant
