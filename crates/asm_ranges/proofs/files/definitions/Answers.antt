use Rattle.std.proofs.Common.{List, flat_map, sym, ap, ◌∙◌, arith}
use Rattle.asm_tree.specs.declared.unit.RawDefinition.{RawDefinition}
use Rattle.asm_tree.specs.declared.unit.LoadedUnit.{LoadedUnit}
use Rattle.asm_faults.specs.First.{noted}
use Rattle.asm_ranges.specs.Parts.{part_faults}
use Rattle.asm_ranges.proofs.Parts.{unit_next, all_units}
use Rattle.asm_ranges.proofs.files.definitions.Goals as goal

pub units-preserved : goal.units-preserved
units-preserved c =
    unit_next c.args.known.now c.args.part c.args.units.now c.units.number c.index-units-number.result c.args.first.now c.units.first c.in_unit.new.first (omega arith) c.index-units-number.is c.units.invariant
    (c.in_ok-in_unit.ensures ∙ ap (λ (ds : List RawDefinition). noted c.units.first (flat_map (λ (d : RawDefinition). part_faults c.args.part c.args.known.now (c.units.number, d)) ds)) (c.slice.ensures ∙ sym (ap (λ (v : LoadedUnit). v.unit.definitions) c.index-units-number.is)))

pub returns : goal.returns
returns c = all_units c.args.known.now c.args.part c.args.units.now c.units.number c.args.first.now c.units.first (omega arith) c.units.invariant
