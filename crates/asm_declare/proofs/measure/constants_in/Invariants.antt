use Rattle.std.proofs.Common.{◌≡◌, ℕ, ◌+◌, take}
use Rattle.asm_declare.specs.Measures.{capped, functions_in}
use Rattle.asm_declare.proofs.Counting.{amount}
use Rattle.asm_declare.proofs.measure.constants_in.Given as goal

abbrev pub invariant-loop-declaration : goal.invariant-loop-declaration
invariant-loop-declaration l = (number : ℕ) → l.count ≡ capped (l.others + amount l.domain (functions_in number (take l.declaration-index l.declarations)))
