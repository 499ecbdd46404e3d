use Rattle.std.proofs.Common.{ap, sym, ◌∙◌}
use Rattle.asm_tree.specs.declared.unit.RawDefinition.{RawDefinition}
use Rattle.asm_typing.specs.BodyPieces.{met_now, given_name}
use Rattle.asm_typing.specs.BodyPieces.{met}
use Rattle.asm_typing.proofs.Acting.{met_none}
use Rattle.asm_typing.proofs.BodyParts.{met_one}
use Rattle.asm_typing.proofs.collecting.see_given.Goals as goal

pub returns-in_ok-see-in-Function : goal.returns-in_ok-see-in-Function
returns-in_ok-see-in-Function c =
    met_one c.args.first.now c.see.new.first c.args.seen.now c.see.new.seen c.args.unit c.in-Function.function.name c.in_ok-see-in-Function.ensures.faults c.in_ok-see-in-Function.ensures.seen
    ∙ ap (λ (d : RawDefinition). met (met_now c.args.first.now c.args.seen.now) (given_name (c.args.unit, d))) (sym c.in-Function.is)

pub returns-in-Range : goal.returns-in-Range
returns-in-Range c =
    met_none (met_now c.args.first.now c.args.seen.now) ∙ ap (λ (d : RawDefinition). met (met_now c.args.first.now c.args.seen.now) (given_name (c.args.unit, d))) (sym c.in-Range.is)

pub returns-in-List : goal.returns-in-List
returns-in-List c =
    met_none (met_now c.args.first.now c.args.seen.now) ∙ ap (λ (d : RawDefinition). met (met_now c.args.first.now c.args.seen.now) (given_name (c.args.unit, d))) (sym c.in-List.is)

pub returns-in-Rule : goal.returns-in-Rule
returns-in-Rule c =
    met_none (met_now c.args.first.now c.args.seen.now) ∙ ap (λ (d : RawDefinition). met (met_now c.args.first.now c.args.seen.now) (given_name (c.args.unit, d))) (sym c.in-Rule.is)

pub returns-in-Invariant : goal.returns-in-Invariant
returns-in-Invariant c =
    met_none (met_now c.args.first.now c.args.seen.now) ∙ ap (λ (d : RawDefinition). met (met_now c.args.first.now c.args.seen.now) (given_name (c.args.unit, d))) (sym c.in-Invariant.is)
