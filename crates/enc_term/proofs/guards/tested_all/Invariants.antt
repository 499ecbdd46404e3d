use Rattle.std.proofs.Common.{◌≡◌, ◌≤◌, ℕ, Bool, [], map, take}
use Rattle.cnf_base.specs.Clauses.{lit_true, clause_variables}
use Rattle.cnf_gate.specs.Built.{Grows}
use Rattle.enc_group.specs.Group.{Holds}
use Rattle.enc_term.specs.Guards.{any_passes}
use Rattle.enc_term.proofs.guards.tested_all.Given as goal

abbrev pub invariant-loop-group : goal.invariant-loop-group
invariant-loop-group l = record {
  grows : Grows l.fn.builder l.builder [] [];
  means : (v : ℕ → Bool) → Holds v l.builder → map (lit_true v) l.lits.items ≡ map (any_passes v l.test) (take l.group-index l.groups);
  within : clause_variables l.lits.items ≤ l.builder.count;
}
