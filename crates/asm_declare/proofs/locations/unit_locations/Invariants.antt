use Rattle.std.proofs.Common.{take}
use Rattle.asm_declare.specs.Measures.{functions_in}
use Rattle.asm_declare.specs.Locations.{AreCounted}
use Rattle.asm_declare.proofs.locations.unit_locations.Given as goal

abbrev pub invariant-loop-declaration : goal.invariant-loop-declaration
invariant-loop-declaration l = AreCounted l.numbers l.initial.first l.before (functions_in l.number (take l.declaration-index l.declarations)) l.first l.locations
