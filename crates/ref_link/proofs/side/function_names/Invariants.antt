use Rattle.std.proofs.Common.{◌≡◌, map, take}
use Rattle.asm_sign.specs.declared.function.Function.{Function}
use Rattle.ref_link.proofs.side.function_names.Given as goal

abbrev pub invariant-loop-function : goal.invariant-loop-function
invariant-loop-function l = l.table ≡ map (λ (f : Function). f.name) (take l.function-index l.functions)
