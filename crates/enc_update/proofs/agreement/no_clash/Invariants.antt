use Rattle.std.proofs.Common.{◌≡◌, ◌≤◌, ◌+◌, ◌*◌, [], ℕ, Bool, length, map, take}
use Rattle.std.specs.List.{list_any}
use Rattle.cnf_base.specs.Clauses.{clause_variables, lit_true}
use Rattle.cnf_gate.specs.Built.{Grows, size_of}
use Rattle.enc_group.specs.Binding.{entries_before}
use Rattle.enc_group.specs.Group.{Holds}
use Rattle.enc_update.specs.Updates.{two_true}
use Rattle.enc_update.proofs.agreement.no_clash.Given as goal

-- the clashes of the groups so far
abbrev pub invariant-loop-group : goal.invariant-loop-group
invariant-loop-group l = record {
  grows : Grows l.fn.builder l.builder [] [];
  means : (v : ℕ → Bool) → Holds v l.builder → list_any (lit_true v) l.clashes.items ≡ list_any (λ g. two_true v (map (λ e. e.lit) g)) (take l.group-index l.groups);
  within : clause_variables l.clashes.items ≤ l.builder.count;
  long : length l.clashes.items ≡ l.group-index;
  count : l.builder.count ≤ l.fn.builder.count + 3 * entries_before l.groups l.group-index + 2 * l.group-index;
  size : size_of l.builder ≤ size_of l.fn.builder + 21 * entries_before l.groups l.group-index + 2 * l.group-index;
}
