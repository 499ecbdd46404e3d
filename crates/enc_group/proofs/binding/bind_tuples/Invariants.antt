use Rattle.std.proofs.Common.{◌≡◌, ◌≤◌, ◌+◌, ◌*◌, ◌<◌, ℕ, Bool, List, [], take, length, get_or, ◌&&◌}
use Rattle.std.specs.List.{list_any}
use Rattle.cnf_base.specs.Clauses.{lit_true}
use Rattle.cnf_gate.specs.Built.{Grows, size_of}
use Rattle.asm_domain.specs.declared.value.Value.{Value}
use Rattle.asm_node.specs.Term.{Outcome}
use Rattle.enc_group.specs.declared.tuple.Tuple.{Tuple}
use Rattle.enc_group.specs.Group.{Holds, Means, holds, is_gives, values_in, group_variables}
use Rattle.enc_group.specs.Binding.{group_at, entries_before, values_before}
use Rattle.enc_group.proofs.binding.bind_tuples.Given as goal

abbrev pub invariant-loop-key : goal.invariant-loop-key
invariant-loop-key l = record {
  place : l.place ≡ l.key-index;
  grows : Grows l.fn.builder l.builder [] [];
  means : (v : ℕ → Bool) → Holds v l.builder → (f : List Value → Outcome Value) → ((j : ℕ) (t : Tuple) → j < length l.keys → t ≡ get_or l.keys j t → Means v (group_at l.groups j) (f t.values)) → (y : Value) → holds v l.bag y ≡ list_any (λ t. is_gives y (f t.values) && lit_true v t.lit) (take l.key-index l.keys);
  values : values_in l.bag ≡ values_before l.groups l.key-index;
  count : l.builder.count ≤ l.fn.builder.count + entries_before l.groups l.key-index;
  size : size_of l.builder ≤ size_of l.fn.builder + 7 * entries_before l.groups l.key-index;
  within : group_variables l.bag ≤ l.builder.count;
}
