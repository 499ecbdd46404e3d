use Rattle.std.proofs.Common.{◌≡◌, take, map}
use Rattle.enc_rule.proofs.written.lits_of.Given as goal

abbrev pub invariant-loop-pair : goal.invariant-loop-pair
invariant-loop-pair l = l.lits.items ≡ map (λ p. p.lit) (take l.pair-index l.pairs)
