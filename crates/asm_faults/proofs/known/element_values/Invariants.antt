use Rattle.std.proofs.Common.{◌≡◌, take}
use Rattle.std.specs.List.{flat_map}
use Rattle.asm_faults.specs.Known.{element_values}
use Rattle.asm_faults.proofs.known.element_values.Given as goal

abbrev pub invariant-loop-declared : goal.invariant-loop-declared
invariant-loop-declared l = l.values ≡ flat_map element_values (take l.declared-index l.domains)
