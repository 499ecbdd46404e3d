use Rattle.std.proofs.Common.{ap, ◌∙◌, bytes_eq}
use Rattle.asm_tree.specs.declared.unit.RawDefinition.{RawDefinition}
use Rattle.asm_faults.specs.DomainFaults.{domain_definition_in}
use Rattle.asm_declare.proofs.Seeking.{range_sought, list_sought, none_sought}
use Rattle.asm_declare.proofs.numerals.defines.Goals as goal

pub returns-in-Range : goal.returns-in-Range
returns-in-Range c = λ n. range_sought c.args.domain.now n c.args.definition.now c.in-Range.name c.in-Range.field-1 c.in-Range.field-2 c.eq.result c.in-Range.is (c.eq.ensures ∙ (λ j. bytes_eq (c.text.ensures j) (c.text-in-Range.ensures j)))

pub returns-in-List : goal.returns-in-List
returns-in-List c = λ n. list_sought c.args.domain.now n c.args.definition.now c.in-List.name c.in-List.field-1 c.eq-in-List.result c.in-List.is (c.eq-in-List.ensures ∙ (λ j. bytes_eq (c.text-in-List.ensures j) (c.text-in-List-2.ensures j)))

pub returns-in-Function : goal.returns-in-Function
returns-in-Function c = λ n. none_sought c.args.domain.now (ap (λ (x : RawDefinition). domain_definition_in (n, x)) c.in-Function.is)

pub returns-in-Rule : goal.returns-in-Rule
returns-in-Rule c = λ n. none_sought c.args.domain.now (ap (λ (x : RawDefinition). domain_definition_in (n, x)) c.in-Rule.is)

pub returns-in-Invariant : goal.returns-in-Invariant
returns-in-Invariant c = λ n. none_sought c.args.domain.now (ap (λ (x : RawDefinition). domain_definition_in (n, x)) c.in-Invariant.is)
