use Rattle.std.proofs.Common.{ℕ, List, ap, sym, ◌∙◌}
use Rattle.asm_sign.specs.Vocabulary.{Vocabulary}
use Rattle.asm_tree.specs.declared.unit.RawDefinition.{RawDefinition}
use Rattle.asm_faults.specs.First.{noted}
use Rattle.asm_typing.specs.declared.parts.Part.TheVariants.{Rules}
use Rattle.asm_typing.specs.BodyPieces.{part_faults}
use Rattle.asm_typing.proofs.BodyParts.{one_part}
use Rattle.asm_tree.specs.declared.term.RawBinder.{RawBinder}
use Rattle.asm_faults.specs.Files.{DeclaredRule}
use Rattle.asm_faults.specs.Bodies.{RuleHead, macro_faults}
use Rattle.asm_typing.specs.BodyPieces.{macro_body_faults}
use Rattle.asm_typing.proofs.parts.rule_part.Goals as goal

pub returns-in_ok-macro_body-in-Rule : goal.returns-in_ok-macro_body-in-Rule
returns-in_ok-macro_body-in-Rule c =
    let v : Vocabulary = c.args.known.now in
    let heads : List RuleHead = c.args.heads.now in
    let n : ℕ = c.args.unit in
    let r : DeclaredRule = record { unit = n; name = c.in-Rule.field-0; parameters = c.in-Rule.parameters; body = c.in-Rule.body } in
    c.in_ok-macro_body-in-Rule.ensures
    ∙ ap (λ (bs : List RawBinder). noted c.args.first.now (macro_body_faults v heads n bs c.in-Rule.body)) c.slice.ensures
    ∙ one_part (macro_faults v heads) r c.args.first.now
    ∙ ap (λ (x : RawDefinition). noted c.args.first.now (part_faults Rules v heads c.args.names.now (n, x))) (sym c.in-Rule.is)

pub returns-in-Range : goal.returns-in-Range
returns-in-Range c = ap (λ (x : RawDefinition). noted c.args.first.now (part_faults Rules c.args.known.now c.args.heads.now c.args.names.now (c.args.unit, x))) (sym c.in-Range.is)

pub returns-in-List : goal.returns-in-List
returns-in-List c = ap (λ (x : RawDefinition). noted c.args.first.now (part_faults Rules c.args.known.now c.args.heads.now c.args.names.now (c.args.unit, x))) (sym c.in-List.is)

pub returns-in-Function : goal.returns-in-Function
returns-in-Function c = ap (λ (x : RawDefinition). noted c.args.first.now (part_faults Rules c.args.known.now c.args.heads.now c.args.names.now (c.args.unit, x))) (sym c.in-Function.is)

pub returns-in-Invariant : goal.returns-in-Invariant
returns-in-Invariant c = ap (λ (x : RawDefinition). noted c.args.first.now (part_faults Rules c.args.known.now c.args.heads.now c.args.names.now (c.args.unit, x))) (sym c.in-Invariant.is)
