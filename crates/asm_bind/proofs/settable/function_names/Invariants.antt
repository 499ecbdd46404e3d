use Rattle.std.proofs.Common.{◌≡◌, map, take}
use Rattle.asm_sign.specs.declared.function.Function.{Function}
use Rattle.asm_bind.proofs.settable.function_names.Given as goal

abbrev pub invariant-functions : goal.invariant-functions
invariant-functions l = l.names ≡ map (λ (f : Function). f.name) (take l.function-index l.functions)
