use Rattle.std.proofs.Common.{◌≡◌, ℕ, [], length}
use Rattle.enc_group.specs.Binding.{group_at}
use Rattle.enc_update.proofs.slots.empty_groups.Given as goal

-- each of them is empty
abbrev pub invariant-loop : goal.invariant-loop
invariant-loop l = record {
  long : length l.groups.items ≡ l.counter;
  empty : (k : ℕ) → group_at l.groups.items k ≡ [];
}
