use Rattle.std.proofs.Common.{◌≡◌, ◌≤◌, ◌+◌, ◌*◌, ◌++◌, [], ◌&&◌, ◌||◌, ℕ, Bool, take}
use Rattle.cnf_base.specs.Clauses.{lit_true}
use Rattle.cnf_gate.specs.Built.{Grows, size_of}
use Rattle.asm_domain.specs.declared.value.Value.{Value}
use Rattle.enc_group.specs.Group.{Holds, holds, values_in, group_variables}
use Rattle.enc_group.proofs.group.extend.Given as goal

abbrev pub invariant-loop-entry : goal.invariant-loop-entry
invariant-loop-entry l = record {
  grows : Grows l.fn.builder l.builder [] [];
  means : (v : ℕ → Bool) → Holds v l.builder → (y : Value) → holds v l.bag y ≡ (holds v l.fn.bag y || (lit_true v l.guard && holds v (take l.entry-index l.group) y));
  values : values_in l.bag ≡ values_in l.fn.bag ++ values_in (take l.entry-index l.group);
  within : group_variables l.bag ≤ l.builder.count;
  count : l.builder.count ≤ l.fn.builder.count + l.entry-index;
  size : size_of l.builder ≤ size_of l.fn.builder + 7 * l.entry-index;
}
