use Rattle.std.proofs.Common.{◌≡◌, take}
use Rattle.asm_faults.specs.Files.{functions}
use Rattle.asm_declare.specs.Measures.{capped}
use Rattle.asm_declare.proofs.Counting.{amount}
use Rattle.asm_declare.proofs.measure.constants.Given as goal

abbrev pub invariant-loop-loaded : goal.invariant-loop-loaded
invariant-loop-loaded l = l.count ≡ capped (amount l.domain (functions (take l.loaded-index l.units)))
