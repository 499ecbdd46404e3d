use Rattle.std.proofs.Common.{◌≡◌, length, to_z, of_z, w64, FitsSigned, rules, arith, ap, ◌∙◌}
use Rattle.std.proofs.lemmas.Int.{ints}
use Rattle.asm_domain.specs.Universe.{numbers_between}
use Rattle.asm_tree.specs.declared.unit.RawDefinition.{RawDefinition}
use Rattle.asm_faults.specs.DomainFaults.{domain_definition_in}
use Rattle.asm_declare.specs.Measures.{capped}
use Rattle.asm_declare.proofs.Sizing.{no_definition, range_defined, list_defined}
use Rattle.asm_declare.proofs.defining.take.Goals as goal

pub returns-in_ok-define-in-Range : goal.returns-in_ok-define-in-Range
returns-in_ok-define-in-Range c =
    let fits : FitsSigned w64 c.in-Range.low.value = search rules in
    let fits' : FitsSigned w64 c.in-Range.high.value = search rules in
    let l : to_z w64 (of_z w64 c.in-Range.low.value) ≡ c.in-Range.low.value = omega (arith, ints) in
    let h : to_z w64 (of_z w64 c.in-Range.high.value) ≡ c.in-Range.high.value = omega (arith, ints) in
    range_defined c.args.number c.args.item.now c.in-Range.name c.in-Range.low c.in-Range.high c.count_between-size.result c.in-Range.is (c.count_between-size.ensures ∙ (λ j. capped (length (numbers_between (l j) (h j)))))
    (c.in_ok-define-in-Range).ensures.entered (c.in_ok-define-in-Range).ensures.sizes

pub returns-in_ok-define-in-List : goal.returns-in_ok-define-in-List
returns-in_ok-define-in-List c =
    list_defined c.args.number c.args.item.now c.in-List.name c.in-List.numbers c.capped-size.result c.in-List.is (c.capped-size.ensures ∙ ap capped c.len.ensures) (c.in_ok-define-in-List).ensures.entered (c.in_ok-define-in-List).ensures.sizes

pub returns-in-Function : goal.returns-in-Function
returns-in-Function c = no_definition (ap (λ (x : RawDefinition). domain_definition_in (c.args.number, x)) c.in-Function.is)

pub returns-in-Rule : goal.returns-in-Rule
returns-in-Rule c = no_definition (ap (λ (x : RawDefinition). domain_definition_in (c.args.number, x)) c.in-Rule.is)

pub returns-in-Invariant : goal.returns-in-Invariant
returns-in-Invariant c = no_definition (ap (λ (x : RawDefinition). domain_definition_in (c.args.number, x)) c.in-Invariant.is)
