use Rattle.std.proofs.Common.{◌≡◌, ◌≤◌, ◌+◌, ◌*◌, ◌<◌, ℕ, Bool, [], take, length, get_or}
use Rattle.cnf_gate.specs.Built.{Grows, size_of}
use Rattle.asm_domain.specs.declared.value.Value.{Value}
use Rattle.asm_node.specs.Term.{Outcome}
use Rattle.enc_group.specs.declared.group.Entry.{Entry}
use Rattle.enc_group.specs.Group.{Holds, Means, values_in, group_variables}
use Rattle.enc_group.specs.Binding.{group_at, entries_before, values_before}
use Rattle.enc_group.proofs.Groups.{Follows}
use Rattle.enc_group.proofs.binding.bind.Given as goal

abbrev pub invariant-loop-key : goal.invariant-loop-key
invariant-loop-key l = record {
  place : l.place ≡ l.key-index;
  grows : Grows l.fn.builder l.builder [] [];
  means : (v : ℕ → Bool) → Holds v l.builder → (f : Value → Outcome Value) → ((j : ℕ) (e : Entry) → j < length l.keys → e ≡ get_or l.keys j e → Means v (group_at l.groups j) (f e.value)) → Follows v f l.bag (take l.key-index l.keys);
  values : values_in l.bag ≡ values_before l.groups l.key-index;
  count : l.builder.count ≤ l.fn.builder.count + entries_before l.groups l.key-index;
  size : size_of l.builder ≤ size_of l.fn.builder + 7 * entries_before l.groups l.key-index;
  within : group_variables l.bag ≤ l.builder.count;
}
