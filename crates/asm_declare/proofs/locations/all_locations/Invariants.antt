use Rattle.std.proofs.Common.{take}
use Rattle.asm_faults.specs.Files.{functions}
use Rattle.asm_declare.specs.Locations.{AreCounted}
use Rattle.asm_declare.proofs.locations.all_locations.Given as goal

abbrev pub invariant-loop-number : goal.invariant-loop-number
invariant-loop-number l = AreCounted l.numbers l.initial.first 0 (functions (take l.number l.units)) l.first l.locations
