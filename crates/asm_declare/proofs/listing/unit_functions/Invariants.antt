use Rattle.std.proofs.Common.{◌≡◌, ℕ, ◌++◌, map, take}
use Rattle.asm_faults.specs.FunctionFaults.{function_of}
use Rattle.asm_declare.specs.Measures.{functions_in}
use Rattle.asm_declare.proofs.listing.unit_functions.Given as goal

abbrev pub invariant-loop-declaration : goal.invariant-loop-declaration
invariant-loop-declaration l = (n : ℕ) → l.list ≡ l.initial.list ++ map (function_of l.numbers) (functions_in n (take l.declaration-index l.declarations))
