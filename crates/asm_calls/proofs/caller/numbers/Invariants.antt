use Rattle.std.proofs.Common.{◌≡◌, map, take}
use Rattle.asm_calls.specs.declared.read.Read.{Read}
use Rattle.asm_calls.proofs.caller.numbers.Given as goal

abbrev pub invariant-reads : goal.invariant-reads
invariant-reads l = l.numbers ≡ map (λ (r : Read). r.number) (take l.read-index l.reads)
