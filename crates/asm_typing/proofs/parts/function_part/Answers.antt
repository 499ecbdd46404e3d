use Rattle.std.proofs.Common.{List, ap, sym, ◌∙◌}
use Rattle.asm_sign.specs.Vocabulary.{Vocabulary}
use Rattle.asm_tree.specs.declared.unit.RawDefinition.{RawDefinition}
use Rattle.asm_faults.specs.First.{noted}
use Rattle.asm_faults.specs.Files.{Of}
use Rattle.asm_typing.specs.declared.parts.Part.TheVariants.{Functions}
use Rattle.asm_typing.specs.BodyPieces.{part_faults}
use Rattle.asm_faults.specs.declared.fault.Fault.{Fault}
use Rattle.asm_typing.proofs.BodyParts.{one_part}
use Rattle.asm_tree.specs.declared.unit.RawFunction.{RawFunction}
use Rattle.asm_faults.specs.Terms.{function_named}
use Rattle.asm_faults.specs.Bodies.{function_body_faults, is_defined_by_term}
use Rattle.asm_typing.proofs.parts.function_part.Goals as goal

pub returns-in_ok-function_body-in-Function : goal.returns-in_ok-function_body-in-Function
returns-in_ok-function_body-in-Function c =
    let v : Vocabulary = c.args.known.now in
    let body : Of RawFunction → List Fault = λ p. function_body_faults v is_defined_by_term p (function_named v p.1.name.text) in
    c.in_ok-function_body-in-Function.ensures
    ∙ one_part body (c.args.unit, c.in-Function.function) c.args.first.now
    ∙ ap (λ (x : RawDefinition). noted c.args.first.now (part_faults Functions v c.args.heads.now c.args.names.now (c.args.unit, x))) (sym c.in-Function.is)

pub returns-in-Range : goal.returns-in-Range
returns-in-Range c = ap (λ (x : RawDefinition). noted c.args.first.now (part_faults Functions c.args.known.now c.args.heads.now c.args.names.now (c.args.unit, x))) (sym c.in-Range.is)

pub returns-in-List : goal.returns-in-List
returns-in-List c = ap (λ (x : RawDefinition). noted c.args.first.now (part_faults Functions c.args.known.now c.args.heads.now c.args.names.now (c.args.unit, x))) (sym c.in-List.is)

pub returns-in-Rule : goal.returns-in-Rule
returns-in-Rule c = ap (λ (x : RawDefinition). noted c.args.first.now (part_faults Functions c.args.known.now c.args.heads.now c.args.names.now (c.args.unit, x))) (sym c.in-Rule.is)

pub returns-in-Invariant : goal.returns-in-Invariant
returns-in-Invariant c = ap (λ (x : RawDefinition). noted c.args.first.now (part_faults Functions c.args.known.now c.args.heads.now c.args.names.now (c.args.unit, x))) (sym c.in-Invariant.is)
