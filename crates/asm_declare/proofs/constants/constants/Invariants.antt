use Rattle.std.proofs.Common.{◌≡◌, take}
use Rattle.asm_faults.specs.Files.{functions}
use Rattle.asm_declare.proofs.Seeking.{names_kept}
use Rattle.asm_declare.proofs.constants.constants.Given as goal

abbrev pub invariant-loop-loaded : goal.invariant-loop-loaded
invariant-loop-loaded l = l.names ≡ names_kept l.domain (functions (take l.loaded-index l.units))
