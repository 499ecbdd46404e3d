use Rattle.std.proofs.Common.{◌≡◌, ℕ, ◌++◌, take}
use Rattle.asm_declare.specs.Measures.{functions_in}
use Rattle.asm_declare.proofs.Seeking.{names_kept}
use Rattle.asm_declare.proofs.constants.unit_constants.Given as goal

abbrev pub invariant-loop-declaration : goal.invariant-loop-declaration
invariant-loop-declaration l = (n : ℕ) → l.names ≡ l.initial.names ++ names_kept l.domain (functions_in n (take l.declaration-index l.declarations))
