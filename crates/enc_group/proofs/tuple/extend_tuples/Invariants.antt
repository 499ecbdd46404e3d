use Rattle.std.proofs.Common.{◌≡◌, ◌≤◌, ◌+◌, ◌*◌, ℕ, Bool, List, [], ◌∷◌, ◌++◌, map, take, ◌&&◌, ◌||◌}
use Rattle.std.specs.List.{list_any}
use Rattle.cnf_base.specs.Clauses.{lit_true}
use Rattle.cnf_gate.specs.Built.{Grows, size_of}
use Rattle.asm_domain.specs.declared.value.Value.{Value}
use Rattle.asm_node.specs.Values.{same_all}
use Rattle.enc_group.specs.Group.{Holds, values_in}
use Rattle.enc_group.specs.Tuple.{holds_all, tuples_in, tuple_variables}
use Rattle.enc_group.proofs.tuple.extend_tuples.Given as goal

abbrev pub invariant-loop-entry : goal.invariant-loop-entry
invariant-loop-entry l = record {
  grows : Grows l.fn.builder l.builder [] [];
  means : (v : ℕ → Bool) → Holds v l.builder → (ys : List Value)
      → holds_all v l.tuples ys ≡ (holds_all v l.fn.tuples ys || (lit_true v l.first.lit && list_any (λ e. same_all (l.first.values ++ e.value ∷ []) ys && lit_true v e.lit) (take l.entry-index l.group)));
  values : tuples_in l.tuples ≡ tuples_in l.fn.tuples ++ map (λ x. l.first.values ++ x ∷ []) (values_in (take l.entry-index l.group));
  size : size_of l.builder ≤ size_of l.fn.builder + 7 * l.entry-index;
  count : l.builder.count ≤ l.fn.builder.count + l.entry-index;
  within : tuple_variables l.tuples ≤ l.builder.count;
}
