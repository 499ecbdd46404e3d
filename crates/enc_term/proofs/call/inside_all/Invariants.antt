use Rattle.std.proofs.Common.{◌≡◌, ℕ, Bool, map, take, length}
use Rattle.asm_node.specs.Values.{within}
use Rattle.asm_node.specs.Term.{Gives}
use Rattle.enc_group.specs.Group.{values_in, group_variables}
use Rattle.enc_group.proofs.Groups.{Follows}
use Rattle.enc_term.proofs.call.inside_all.Given as goal

abbrev pub invariant-loop-entry : goal.invariant-loop-entry
invariant-loop-entry l = record {
  means : (v : ℕ → Bool) → Follows v (λ x. Gives (within l.fn.domains l.fn.domain x)) l.bag (take l.entry-index l.group);
  values : values_in l.bag ≡ map (within l.fn.domains l.fn.domain) (values_in (take l.entry-index l.group));
  within : group_variables l.bag ≡ group_variables (take l.entry-index l.group);
  long : length l.bag ≡ l.entry-index;
}
