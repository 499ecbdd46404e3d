use Rattle.std.proofs.Common.{◌≡◌, ◌<◌, ℕ, Bool, [], map, take}
use Rattle.std.specs.List.{list_any}
use Rattle.cnf_base.specs.Clauses.{lit_true}
use Rattle.cnf_gate.specs.Built.{Grows}
use Rattle.enc_group.specs.Group.{Holds}
use Rattle.enc_term.specs.Guards.{two_true}
use Rattle.enc_term.proofs.guards.one_alone.Given as goal

abbrev pub invariant-loop-lit : goal.invariant-loop-lit
invariant-loop-lit l = record {
  grows : Grows l.fn.builder l.builder [] [];
  seen : (v : ℕ → Bool) → Holds v l.builder → lit_true v l.seen ≡ list_any (λ b. b) (map (lit_true v) (take l.lit-index l.lits));
  twice : (v : ℕ → Bool) → Holds v l.builder → lit_true v l.twice ≡ two_true (map (lit_true v) (take l.lit-index l.lits));
  seen_within : l.seen.var < l.builder.count;
  twice_within : l.twice.var < l.builder.count;
}
