use Rattle.std.proofs.Common.{◌≡◌, ◌++◌, take}
use Rattle.asm_domain.specs.Universe.{elements}
use Rattle.asm_faults.proofs.known.add_elements.Given as goal

abbrev pub invariant-loop-rank : goal.invariant-loop-rank
invariant-loop-rank l = l.values ≡ l.initial.values ++ take l.rank (elements l.domain)
