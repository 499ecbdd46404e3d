use Rattle.std.proofs.Common.{◌≡◌, ◌≤◌, ℕ, Bool, [], take}
use Rattle.std.specs.List.{flat_map}
use Rattle.cnf_gate.specs.Built.{Grows}
use Rattle.asm_domain.specs.declared.value.Value.{Value}
use Rattle.asm_node.specs.Term.{Outcome, branch}
use Rattle.enc_group.specs.Group.{Holds, Means, values_in, group_variables}
use Rattle.enc_group.proofs.Groups.{Follows}
use Rattle.enc_term.proofs.forms.branches.Given as goal

abbrev pub invariant-loop-key : goal.invariant-loop-key
invariant-loop-key l = record {
  grows : Grows l.fn.builder l.builder [] [];
  means : (v : ℕ → Bool) → Holds v l.builder → (p q r : Outcome Value) → Means v l.first p → Means v l.second q → Means v l.other r → Follows v (λ x. branch x p q r) l.bag (take l.key-index l.keys);
  values : values_in l.bag ≡ flat_map (λ x. branch x (values_in l.first) (values_in l.second) (values_in l.other)) (values_in (take l.key-index l.keys));
  within : group_variables l.bag ≤ l.builder.count;
}
