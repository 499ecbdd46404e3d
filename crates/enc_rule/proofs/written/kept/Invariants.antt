use Rattle.std.proofs.Common.{◌≡◌, take}
use Rattle.enc_rule.specs.Written.{writable}
use Rattle.enc_rule.proofs.written.kept.Given as goal

abbrev pub invariant-loop-entry : goal.invariant-loop-entry
invariant-loop-entry l = l.entries ≡ writable l.domains l.codomain (take l.entry-index l.value)
