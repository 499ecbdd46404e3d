use Rattle.std.proofs.Common.{◌≡◌, ◌++◌, take, flat_map}
use Rattle.asm_tree.specs.declared.unit.RawDefinition.{RawDefinition}
use Rattle.asm_faults.specs.Files.{names_in_definition}
use Rattle.asm_typing.specs.BodyPieces.{texts_of}
use Rattle.asm_typing.proofs.collecting.defined.Given as goal

abbrev pub invariant-items : goal.invariant-items
invariant-items l = l.names ≡ l.initial.names ++ flat_map (λ (d : RawDefinition). texts_of (names_in_definition d)) (take l.item-index l.items)
