use Rattle.std.proofs.Common.{ap, sym, ◌∙◌}
use Rattle.asm_sign.specs.Vocabulary.{Vocabulary}
use Rattle.asm_tree.specs.declared.unit.RawDefinition.{RawDefinition}
use Rattle.asm_faults.specs.First.{noted}
use Rattle.asm_typing.specs.declared.parts.Part.TheVariants.{Invariants}
use Rattle.asm_typing.specs.BodyPieces.{part_faults}
use Rattle.asm_typing.proofs.BodyParts.{one_part}
use Rattle.asm_faults.specs.Bodies.{invariant_faults}
use Rattle.asm_typing.proofs.parts.invariant_part.Goals as goal

pub returns-in_ok-invariant-in-Invariant : goal.returns-in_ok-invariant-in-Invariant
returns-in_ok-invariant-in-Invariant c =
    let v : Vocabulary = c.args.known.now in
    c.in_ok-invariant-in-Invariant.ensures
    ∙ one_part (invariant_faults v c.args.names.now) (c.args.unit, c.in-Invariant.stated) c.args.first.now
    ∙ ap (λ (x : RawDefinition). noted c.args.first.now (part_faults Invariants v c.args.heads.now c.args.names.now (c.args.unit, x))) (sym c.in-Invariant.is)

pub returns-in-Range : goal.returns-in-Range
returns-in-Range c = ap (λ (x : RawDefinition). noted c.args.first.now (part_faults Invariants c.args.known.now c.args.heads.now c.args.names.now (c.args.unit, x))) (sym c.in-Range.is)

pub returns-in-List : goal.returns-in-List
returns-in-List c = ap (λ (x : RawDefinition). noted c.args.first.now (part_faults Invariants c.args.known.now c.args.heads.now c.args.names.now (c.args.unit, x))) (sym c.in-List.is)

pub returns-in-Function : goal.returns-in-Function
returns-in-Function c = ap (λ (x : RawDefinition). noted c.args.first.now (part_faults Invariants c.args.known.now c.args.heads.now c.args.names.now (c.args.unit, x))) (sym c.in-Function.is)

pub returns-in-Rule : goal.returns-in-Rule
returns-in-Rule c = ap (λ (x : RawDefinition). noted c.args.first.now (part_faults Invariants c.args.known.now c.args.heads.now c.args.names.now (c.args.unit, x))) (sym c.in-Rule.is)
