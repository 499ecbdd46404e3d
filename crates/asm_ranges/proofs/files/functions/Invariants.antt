use Rattle.std.proofs.Common.{◌≡◌, drop, flat_map}
use Rattle.asm_tree.specs.declared.unit.RawFunction.{RawFunction}
use Rattle.asm_faults.specs.First.{noted}
use Rattle.asm_faults.specs.Ranges.{function_faults}
use Rattle.asm_ranges.proofs.files.functions.Given as goal

abbrev pub invariant-items : goal.invariant-items
invariant-items l = noted l.first (flat_map (λ (f : RawFunction). function_faults l.known (l.unit, f)) (drop l.item-index l.items)) ≡ noted l.initial.first (flat_map (λ (f : RawFunction). function_faults l.known (l.unit, f)) l.items)
