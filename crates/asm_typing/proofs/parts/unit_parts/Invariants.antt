use Rattle.std.proofs.Common.{◌≡◌, take, flat_map}
use Rattle.asm_tree.specs.declared.unit.RawDefinition.{RawDefinition}
use Rattle.asm_faults.specs.First.{noted}
use Rattle.asm_typing.specs.BodyPieces.{part_faults}
use Rattle.asm_typing.proofs.parts.unit_parts.Given as goal

abbrev pub invariant-items : goal.invariant-items
invariant-items l = l.first ≡ noted l.initial.first (flat_map (λ (d : RawDefinition). part_faults l.part l.known l.heads l.names (l.unit, d)) (take l.item-index l.items))
