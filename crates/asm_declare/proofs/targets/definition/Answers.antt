use Rattle.std.proofs.Common.{ap}
use Rattle.asm_tree.specs.declared.unit.RawDefinition.{RawDefinition}
use Rattle.asm_faults.specs.DomainFaults.{domain_definition_in}
use Rattle.asm_declare.specs.Targets.{faults_of_definition}
use Rattle.asm_declare.proofs.Targeting.{none_noted, range_noted, listing_noted}
use Rattle.asm_declare.proofs.targets.definition.Goals as goal

pub returns-in_ok-target-in-Range : goal.returns-in_ok-target-in-Range
returns-in_ok-target-in-Range c =
    range_noted c.args.measures.now.names c.args.measures.now.measures _ _ c.args.number c.args.item.now c.in-Range.name c.in-Range.field-1 c.in-Range.field-2 c.in-Range.is (c.in_ok-target-in-Range).ensures

pub returns-in_ok-numerals-in-List : goal.returns-in_ok-numerals-in-List
returns-in_ok-numerals-in-List c =
    listing_noted c.args.measures.now.names c.args.measures.now.measures _ _ _ c.args.number c.args.item.now c.in-List.name c.in-List.numbers c.slice.result.now c.in-List.is c.slice.ensures (c.in_ok-target-in-List).ensures (c.in_ok-numerals-in-List).ensures

pub returns-in-Function : goal.returns-in-Function
returns-in-Function c = none_noted (faults_of_definition c.args.measures.now.names c.args.measures.now.measures) c.args.first.now (ap (λ (x : RawDefinition). domain_definition_in (c.args.number, x)) c.in-Function.is)

pub returns-in-Rule : goal.returns-in-Rule
returns-in-Rule c = none_noted (faults_of_definition c.args.measures.now.names c.args.measures.now.measures) c.args.first.now (ap (λ (x : RawDefinition). domain_definition_in (c.args.number, x)) c.in-Rule.is)

pub returns-in-Invariant : goal.returns-in-Invariant
returns-in-Invariant c = none_noted (faults_of_definition c.args.measures.now.names c.args.measures.now.measures) c.args.first.now (ap (λ (x : RawDefinition). domain_definition_in (c.args.number, x)) c.in-Invariant.is)
