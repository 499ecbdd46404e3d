use Rattle.std.proofs.Common.{◌≡◌, ◌++◌, map, take}
use Rattle.asm_faults.specs.Files.{functions}
use Rattle.asm_faults.specs.FunctionFaults.{function_of}
use Rattle.asm_declare.proofs.listing.all_functions.Given as goal

abbrev pub invariant-loop-loaded : goal.invariant-loop-loaded
invariant-loop-loaded l = l.list ≡ l.initial.list ++ map (function_of l.numbers) (functions (take l.loaded-index l.units))
