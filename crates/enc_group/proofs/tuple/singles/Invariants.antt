use Rattle.std.proofs.Common.{◌≡◌, ℕ, Bool, List, [], ◌∷◌, ◌&&◌, map, take}
use Rattle.std.specs.List.{list_any}
use Rattle.cnf_base.specs.Clauses.{lit_true}
use Rattle.asm_domain.specs.declared.value.Value.{Value}
use Rattle.asm_node.specs.Values.{same_all}
use Rattle.enc_group.specs.Group.{values_in, group_variables}
use Rattle.enc_group.specs.Tuple.{holds_all, tuples_in, tuple_variables}
use Rattle.enc_group.proofs.tuple.singles.Given as goal

abbrev pub invariant-loop-entry : goal.invariant-loop-entry
invariant-loop-entry l = record {
  means : (v : ℕ → Bool) (ys : List Value) → holds_all v l.tuples ys ≡ list_any (λ e. same_all (e.value ∷ []) ys && lit_true v e.lit) (take l.entry-index l.group);
  values : tuples_in l.tuples ≡ map (λ x. x ∷ []) (values_in (take l.entry-index l.group));
  within : tuple_variables l.tuples ≡ group_variables (take l.entry-index l.group);
}
