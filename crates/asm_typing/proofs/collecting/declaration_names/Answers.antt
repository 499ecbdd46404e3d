use Rattle.std.proofs.Common.{List, [], ◌∷◌, ◌++◌, ap, sym, ◌∙◌, append_assoc}
use Rattle.asm_tree.specs.declared.unit.RawDeclaration.{RawDeclaration}
use Rattle.asm_faults.specs.At.{Name}
use Rattle.asm_faults.specs.Files.{names_in_declaration}
use Rattle.asm_typing.specs.BodyPieces.{texts_of}
use Rattle.asm_typing.proofs.collecting.declaration_names.Goals as goal

pub returns-in_ok-add_all-in-Enumeration : goal.returns-in_ok-add_all-in-Enumeration
returns-in_ok-add_all-in-Enumeration c =
    let now : List Name = c.args.names.now in
    c.in_ok-add_all-in-Enumeration.ensures
    ∙ (λ j. c.in_ok-add-in-Enumeration.ensures.ok j ++ texts_of (c.slice.ensures j))
    ∙ append_assoc now (c.in-Enumeration.name.text ∷ []) (texts_of c.in-Enumeration.elements)
    ∙ ap (λ (d : RawDeclaration). now ++ texts_of (names_in_declaration d)) (sym c.in-Enumeration.is)

pub returns-in_ok-add-in-Subset : goal.returns-in_ok-add-in-Subset
returns-in_ok-add-in-Subset c = c.in_ok-add-in-Subset.ensures.ok ∙ ap (λ (d : RawDeclaration). c.args.names.now ++ texts_of (names_in_declaration d)) (sym c.in-Subset.is)

pub returns-in_ok-add-in-Abstract : goal.returns-in_ok-add-in-Abstract
returns-in_ok-add-in-Abstract c = c.in_ok-add-in-Abstract.ensures.ok ∙ ap (λ (d : RawDeclaration). c.args.names.now ++ texts_of (names_in_declaration d)) (sym c.in-Abstract.is)

pub returns-in_ok-add-in-Function : goal.returns-in_ok-add-in-Function
returns-in_ok-add-in-Function c = c.in_ok-add-in-Function.ensures.ok ∙ ap (λ (d : RawDeclaration). c.args.names.now ++ texts_of (names_in_declaration d)) (sym c.in-Function.is)
