use Rattle.std.proofs.Common.{◌≡◌, ◌-◌, drop}
use Rattle.asm_faults.specs.Ranges.{within}
use Rattle.asm_ranges.proofs.term.within.Given as goal

abbrev pub invariant-items : goal.invariant-items
invariant-items l = l.scope ≡ within l.known (drop (l.count - l.index) l.items) l.initial.scope
