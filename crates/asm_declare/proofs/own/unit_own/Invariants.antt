use Rattle.std.proofs.Common.{◌≡◌, take, flat_map}
use Rattle.asm_faults.specs.First.{noted}
use Rattle.asm_faults.specs.FunctionFaults.{own_faults}
use Rattle.asm_declare.specs.Measures.{functions_in}
use Rattle.asm_declare.proofs.own.unit_own.Given as goal

abbrev pub invariant-loop-declaration : goal.invariant-loop-declaration
invariant-loop-declaration l = l.first ≡ noted l.initial.first (flat_map (own_faults l.numbers) (functions_in l.number (take l.declaration-index l.declarations)))
