use Rattle.std.proofs.Common.{◌≡◌, drop, flat_map}
use Rattle.asm_tree.specs.declared.unit.RawDefinition.{RawDefinition}
use Rattle.asm_faults.specs.First.{noted}
use Rattle.asm_ranges.specs.Parts.{part_faults}
use Rattle.asm_ranges.proofs.files.in_unit.Given as goal

abbrev pub invariant-items : goal.invariant-items
invariant-items l = noted l.first (flat_map (λ (d : RawDefinition). part_faults l.part l.known (l.unit, d)) (drop l.item-index l.items)) ≡ noted l.initial.first (flat_map (λ (d : RawDefinition). part_faults l.part l.known (l.unit, d)) l.items)
