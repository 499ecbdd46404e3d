use Rattle.std.proofs.Common.{◌≡◌, ◌≤◌, ◌<◌, ◌+◌, ◌*◌, [], ℕ, Bool, take}
use Rattle.std.specs.List.{list_any}
use Rattle.cnf_base.specs.Clauses.{lit_true}
use Rattle.cnf_gate.specs.Built.{Grows, size_of}
use Rattle.enc_group.specs.Group.{Holds}
use Rattle.enc_update.specs.Updates.{two_true}
use Rattle.enc_update.proofs.clash.two_of.Given as goal

-- whether one of the literals so far is true, and whether two are
abbrev pub invariant-loop-lit : goal.invariant-loop-lit
invariant-loop-lit l = record {
  grows : Grows l.fn.builder l.builder [] [];
  seen : (v : ℕ → Bool) → Holds v l.builder → lit_true v l.seen ≡ list_any (lit_true v) (take l.lit-index l.lits);
  twice : (v : ℕ → Bool) → Holds v l.builder → lit_true v l.twice ≡ two_true v (take l.lit-index l.lits);
  seen_within : l.seen.var < l.builder.count;
  twice_within : l.twice.var < l.builder.count;
  count : l.builder.count ≤ l.fn.builder.count + 3 * l.lit-index + 2;
  size : size_of l.builder ≤ size_of l.fn.builder + 21 * l.lit-index + 2;
}
