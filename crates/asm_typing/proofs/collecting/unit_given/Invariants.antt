use Rattle.std.proofs.Common.{take, flat_map}
use Rattle.asm_tree.specs.declared.unit.RawDefinition.{RawDefinition}
use Rattle.asm_typing.specs.BodyPieces.{AreMet, given_name}
use Rattle.asm_typing.proofs.collecting.unit_given.Given as goal

abbrev pub invariant-items : goal.invariant-items
invariant-items l = AreMet l.initial.first l.initial.seen (flat_map (λ (d : RawDefinition). given_name (l.unit, d)) (take l.item-index l.items)) l.first l.seen
