use Rattle.std.proofs.Common.{◌≡◌, [], take}
use Rattle.asm_faults.specs.First.{noted}
use Rattle.asm_faults.specs.DomainFaults.{number_repeats}
use Rattle.asm_declare.proofs.targets.numerals.Given as goal

abbrev pub invariant-loop-place : goal.invariant-loop-place
invariant-loop-place l = l.first ≡ noted l.initial.first (number_repeats l.number [] (take l.place l.numbers))
