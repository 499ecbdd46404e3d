use Rattle.std.proofs.Common.{◌+◌, drop, flat_map, Option, ap, ◌∙◌}
use Rattle.asm_tree.specs.declared.unit.RawDefinition.{RawDefinition}
use Rattle.asm_faults.specs.declared.fault.Fault.{Fault}
use Rattle.asm_faults.specs.First.{noted}
use Rattle.asm_ranges.specs.Parts.{part_faults}
use Rattle.asm_ranges.proofs.Steps.{each_next}
use Rattle.asm_ranges.proofs.files.in_unit.Goals as goal

pub items-preserved : goal.items-preserved
items-preserved c =
    ap (λ (f : Option Fault). noted f (flat_map (λ (d : RawDefinition). part_faults c.args.part c.args.known.now (c.args.unit, d)) (drop (c.items.item-index + 1) c.args.items.now))) c.in_ok-definition.ensures
    ∙ each_next (λ (d : RawDefinition). part_faults c.args.part c.args.known.now (c.args.unit, d)) c.args.items.now c.items.item-index c.item-item.result c.items.first c.items-test.true c.item-item.is
    ∙ c.items.invariant
