use Rattle.std.proofs.Common.{take}
use Rattle.asm_domain.specs.Universe.{AreDistinct}
use Rattle.asm_domain.proofs.refusal.first_repeated_number.Given as goal

-- no item so far is repeated
abbrev pub invariant-loop-place : goal.invariant-loop-place
invariant-loop-place l = AreDistinct (take l.place l.numbers)
