use Rattle.std.proofs.Common.{◌++◌, Option, ap, sym, ◌∙◌}
use Rattle.std.proofs.lemmas.List.{append-nil}
use Rattle.asm_tree.specs.declared.unit.RawDefinition.{RawDefinition}
use Rattle.asm_tree.specs.declared.term.RawName.{RawName}
use Rattle.asm_faults.specs.Files.{to_list, names_in_definition}
use Rattle.asm_typing.specs.BodyPieces.{texts_of}
use Rattle.asm_typing.proofs.collecting.definition_names.Goals as goal

pub returns-in_ok-add-in-Rule : goal.returns-in_ok-add-in-Rule
returns-in_ok-add-in-Rule c = c.in_ok-add-in-Rule.ensures.ok ∙ ap (λ (d : RawDefinition). c.args.names.now ++ texts_of (names_in_definition d)) (sym c.in-Rule.is)

pub returns-in_ok-add-in-Some : goal.returns-in_ok-add-in-Some
returns-in_ok-add-in-Some c =
    c.in_ok-add-in-Some.ensures.ok
    ∙ ap (λ (o : Option RawName). c.args.names.now ++ texts_of (to_list o)) (sym c.in-Some.is)
    ∙ ap (λ (d : RawDefinition). c.args.names.now ++ texts_of (names_in_definition d)) (sym c.in-Invariant.is)

pub returns-in-None : goal.returns-in-None
returns-in-None c =
    sym (append-nil c.args.names.now)
    ∙ ap (λ (o : Option RawName). c.args.names.now ++ texts_of (to_list o)) (sym c.in-None.is)
    ∙ ap (λ (d : RawDefinition). c.args.names.now ++ texts_of (names_in_definition d)) (sym c.in-Invariant.is)

pub returns-in-Range : goal.returns-in-Range
returns-in-Range c = sym (append-nil c.args.names.now) ∙ ap (λ (d : RawDefinition). c.args.names.now ++ texts_of (names_in_definition d)) (sym c.in-Range.is)

pub returns-in-List : goal.returns-in-List
returns-in-List c = sym (append-nil c.args.names.now) ∙ ap (λ (d : RawDefinition). c.args.names.now ++ texts_of (names_in_definition d)) (sym c.in-List.is)

pub returns-in-Function : goal.returns-in-Function
returns-in-Function c = sym (append-nil c.args.names.now) ∙ ap (λ (d : RawDefinition). c.args.names.now ++ texts_of (names_in_definition d)) (sym c.in-Function.is)
