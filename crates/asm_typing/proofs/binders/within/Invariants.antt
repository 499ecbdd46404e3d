use Rattle.std.proofs.Common.{◌≡◌, ℕ, ◌-◌, drop}
use Rattle.asm_faults.specs.Terms.{within}
use Rattle.asm_typing.proofs.binders.within.Given as goal

abbrev pub invariant-items : goal.invariant-items
invariant-items l = (n : ℕ) → l.scope ≡ within l.known n (drop (l.count - l.index) l.items) l.initial.scope
