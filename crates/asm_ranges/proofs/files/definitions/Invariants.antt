use Rattle.std.proofs.Common.{◌≡◌, take}
use Rattle.asm_faults.specs.First.{noted}
use Rattle.asm_ranges.specs.Parts.{all_part_faults}
use Rattle.asm_ranges.proofs.files.definitions.Given as goal

abbrev pub invariant-units : goal.invariant-units
invariant-units l = l.first ≡ noted l.initial.first (all_part_faults l.part l.known (take l.number l.units))
