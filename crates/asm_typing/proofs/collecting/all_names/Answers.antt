use Rattle.std.proofs.Common.{List, ◌++◌, ap, sym, ◌∙◌, arith, append_assoc, flat_map}
use Rattle.asm_tree.specs.declared.unit.RawUnit.{RawUnit}
use Rattle.asm_faults.specs.Files.{Of}
use Rattle.asm_tree.specs.declared.unit.RawDefinition.{RawDefinition}
use Rattle.asm_tree.specs.declared.unit.RawDeclaration.{RawDeclaration}
use Rattle.asm_faults.specs.At.{Name}
use Rattle.asm_faults.specs.Files.{names_in_declaration, names_in_definition}
use Rattle.asm_typing.specs.BodyPieces.{texts_of, main_texts}
use Rattle.asm_typing.proofs.Acting.{list_files_more, list_files_all}
use Rattle.asm_typing.proofs.BodyParts.{unit_texts, texts_are}
use Rattle.asm_typing.proofs.collecting.all_names.Goals as goal

pub units-init : goal.units-init
units-init c = c.new-names.ensures

pub units-preserved : goal.units-preserved
units-preserved c =
    let g : Of RawUnit → List Name = λ p. unit_texts p.1 in
    let own : List RawDeclaration → List Name = flat_map (λ (d : RawDeclaration). texts_of (names_in_declaration d)) in
    let stated : List RawDefinition → List Name = flat_map (λ (d : RawDefinition). texts_of (names_in_definition d)) in
    let now : List Name = c.units.names in
    list_files_more g c.args.units.now c.units.number c.index-units-number.result (own c.slice.result.now ++ stated c.slice-in-units.result.now) now c.defined.new.names (omega arith) c.index-units-number.is
    (λ j. own (c.slice.ensures j) ++ stated (c.slice-in-units.ensures j)) c.units.invariant
    (c.in_ok-defined.ensures ∙ ap (λ (xs : List Name). xs ++ stated c.slice-in-units.result.now) c.in_ok-declared.ensures ∙ append_assoc now (own c.slice.result.now) (stated c.slice-in-units.result.now))

pub returns : goal.returns
returns c =
    let g : Of RawUnit → List Name = λ p. unit_texts p.1 in
    c.in_ok-main_name.ensures
    ∙ ap (λ (names : List Name). names ++ main_texts c.args.units.now) (list_files_all g c.args.units.now c.units.number c.units.names (omega arith) c.units.invariant)
    ∙ sym (texts_are c.args.units.now)
