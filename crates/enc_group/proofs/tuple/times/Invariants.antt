use Rattle.std.proofs.Common.{◌≡◌, ◌≤◌, ◌+◌, ◌*◌, ℕ, Bool, List, [], take, length, ◌&&◌}
use Rattle.std.specs.List.{list_any}
use Rattle.cnf_base.specs.Clauses.{lit_true}
use Rattle.cnf_gate.specs.Built.{Grows, size_of}
use Rattle.asm_domain.specs.declared.value.Value.{Value}
use Rattle.asm_node.specs.Term.{Outcome}
use Rattle.enc_group.specs.Group.{Holds, Means, values_in}
use Rattle.enc_group.specs.Tuple.{holds_all, are_given, tuples_in, tuple_variables, products}
use Rattle.enc_group.proofs.Tuples.{behind}
use Rattle.enc_group.proofs.tuple.times.Given as goal

abbrev pub invariant-loop-tuple : goal.invariant-loop-tuple
invariant-loop-tuple l = record {
  grows : Grows l.fn.builder l.builder [] [];
  means : (v : ℕ → Bool) → Holds v l.builder → (o : Outcome Value) → Means v l.group o → (ys : List Value)
      → holds_all v l.all ys ≡ list_any (λ t. are_given ys (behind o t.values) && lit_true v t.lit) (take l.tuple-index l.tuples);
  values : tuples_in l.all ≡ products (tuples_in (take l.tuple-index l.tuples)) (values_in l.group);
  size : size_of l.builder ≤ size_of l.fn.builder + 7 * (l.tuple-index * length l.group);
  count : l.builder.count ≤ l.fn.builder.count + l.tuple-index * length l.group;
  within : tuple_variables l.all ≤ l.builder.count;
  few : l.tuple-index ≤ length l.tuples;
}
