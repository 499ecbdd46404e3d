use Rattle.std.proofs.Common.{◌≡◌, ◌++◌, length, map, take}
use Rattle.std.specs.List.{enumerate_from}
use Rattle.asm_faults.specs.Files.{domains}
use Rattle.asm_faults.specs.FunctionFaults.{declared_domain}
use Rattle.asm_declare.proofs.universe.all_domains.Given as goal

abbrev pub invariant-loop-loaded : goal.invariant-loop-loaded
invariant-loop-loaded l = l.list ≡ l.initial.list ++ map (declared_domain l.units) (enumerate_from (length l.initial.list) (domains (take l.loaded-index l.units)))
