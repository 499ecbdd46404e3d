use Rattle.std.proofs.Common.{◌≡◌, take}
use Rattle.enc_group.specs.Group.{lits_with}
use Rattle.enc_group.proofs.group.lits_of.Given as goal

abbrev pub invariant-loop-entry : goal.invariant-loop-entry
invariant-loop-entry l = l.lits.items ≡ lits_with (take l.entry-index l.group) l.value
