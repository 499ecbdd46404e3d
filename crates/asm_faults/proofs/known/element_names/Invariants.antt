use Rattle.std.proofs.Common.{◌≡◌, take}
use Rattle.std.specs.List.{flat_map}
use Rattle.asm_faults.specs.Known.{element_names}
use Rattle.asm_faults.proofs.known.element_names.Given as goal

abbrev pub invariant-loop-declared : goal.invariant-loop-declared
invariant-loop-declared l = l.table ≡ flat_map element_names (take l.declared-index l.domains)
