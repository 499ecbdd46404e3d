use Rattle.std.proofs.Common.{◌≡◌, ℕ, Bool, map, take, length, ◌&&◌}
use Rattle.std.specs.List.{list_any}
use Rattle.cnf_base.specs.Clauses.{lit_true}
use Rattle.asm_domain.specs.declared.value.Value.{Value}
use Rattle.asm_node.specs.Term.{Gives}
use Rattle.asm_node.specs.Values.{result_of}
use Rattle.enc_group.specs.Group.{holds, is_gives, values_in, group_variables}
use Rattle.enc_group.specs.Tuple.{tuples_in, tuple_variables}
use Rattle.enc_term.proofs.operating.apply_all.Given as goal

abbrev pub invariant-loop-tuple : goal.invariant-loop-tuple
invariant-loop-tuple l = record {
  means : (v : ℕ → Bool) (y : Value) → holds v l.bag y ≡ list_any (λ t. is_gives y (Gives (result_of l.fn.op t.values)) && lit_true v t.lit) (take l.tuple-index l.tuples);
  values : values_in l.bag ≡ map (result_of l.fn.op) (tuples_in (take l.tuple-index l.tuples));
  within : group_variables l.bag ≡ tuple_variables (take l.tuple-index l.tuples);
  long : length l.bag ≡ l.tuple-index;
}
