use Rattle.std.proofs.Common.{◌≡◌, ◌++◌, take}
use Rattle.asm_faults.proofs.known.add_all.Given as goal

abbrev pub invariant-loop-name : goal.invariant-loop-name
invariant-loop-name l = l.table ≡ l.initial.table ++ take l.name-index l.names
