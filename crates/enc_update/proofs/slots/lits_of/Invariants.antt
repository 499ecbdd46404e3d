use Rattle.std.proofs.Common.{◌≡◌, map, take}
use Rattle.enc_update.proofs.slots.lits_of.Given as goal

abbrev pub invariant-loop-entry : goal.invariant-loop-entry
invariant-loop-entry l = l.lits.items ≡ map (λ e. e.lit) (take l.entry-index l.group)
