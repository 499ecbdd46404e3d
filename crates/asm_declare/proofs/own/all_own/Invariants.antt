use Rattle.std.proofs.Common.{◌≡◌, take, flat_map}
use Rattle.asm_faults.specs.First.{noted}
use Rattle.asm_faults.specs.Files.{functions}
use Rattle.asm_faults.specs.FunctionFaults.{own_faults}
use Rattle.asm_declare.proofs.own.all_own.Given as goal

abbrev pub invariant-loop-number : goal.invariant-loop-number
invariant-loop-number l = l.first ≡ noted l.initial.first (flat_map (own_faults l.numbers) (functions (take l.number l.units)))
