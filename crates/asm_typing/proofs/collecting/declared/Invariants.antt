use Rattle.std.proofs.Common.{◌≡◌, ◌++◌, take, flat_map}
use Rattle.asm_tree.specs.declared.unit.RawDeclaration.{RawDeclaration}
use Rattle.asm_faults.specs.Files.{names_in_declaration}
use Rattle.asm_typing.specs.BodyPieces.{texts_of}
use Rattle.asm_typing.proofs.collecting.declared.Given as goal

abbrev pub invariant-items : goal.invariant-items
invariant-items l = l.names ≡ l.initial.names ++ flat_map (λ (d : RawDeclaration). texts_of (names_in_declaration d)) (take l.item-index l.items)
