use Rattle.std.proofs.Common.{◌≡◌, take}
use Rattle.enc_term.specs.Guards.{lits_passing}
use Rattle.enc_term.proofs.guards.passing.Given as goal

abbrev pub invariant-loop-entry : goal.invariant-loop-entry
invariant-loop-entry l = l.lits.items ≡ lits_passing l.test (take l.entry-index l.group)
