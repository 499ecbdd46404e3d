use Rattle.std.proofs.Common.{◌≡◌, ℕ, ◌++◌, length, map, take}
use Rattle.std.specs.List.{enumerate_from}
use Rattle.asm_faults.specs.FunctionFaults.{declared_domain}
use Rattle.asm_declare.specs.Measures.{domains_in}
use Rattle.asm_declare.proofs.universe.unit_domains.Given as goal

abbrev pub invariant-loop-declaration : goal.invariant-loop-declaration
invariant-loop-declaration l = (n : ℕ) → l.list ≡ l.initial.list ++ map (declared_domain l.units) (enumerate_from (length l.initial.list) (domains_in n (take l.declaration-index l.declarations)))
