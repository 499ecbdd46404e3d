use Rattle.std.proofs.Common.{◌≡◌, ◌++◌, drop}
use Rattle.std.specs.Prelude.{map}
use Rattle.asm_calls.specs.Callers.{function_caller, of_unit}
use Rattle.asm_calls.proofs.gather.add_functions.Given as goal

abbrev pub invariant-functions : goal.invariant-functions
invariant-functions l = l.callers ++ map (function_caller l.known) (of_unit l.number (drop l.function-index l.functions)) ≡ l.initial.callers ++ map (function_caller l.known) (of_unit l.number l.functions)
