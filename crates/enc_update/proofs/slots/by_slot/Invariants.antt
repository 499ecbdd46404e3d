use Rattle.std.proofs.Common.{◌≡◌, ◌<◌, ℕ, length, take}
use Rattle.enc_group.specs.Binding.{group_at}
use Rattle.enc_update.specs.Slots.{entries_at}
use Rattle.enc_update.proofs.slots.by_slot.Given as goal

-- each group has the entries of its slot among the pairs so far
abbrev pub invariant-loop-pair : goal.invariant-loop-pair
invariant-loop-pair l = record {
  long : length l.groups.items ≡ l.count;
  entries : (k : ℕ) → k < l.count → group_at l.groups.items k ≡ entries_at (take l.pair-index l.pairs) k;
}
