use Rattle.std.proofs.Common.{◌≡◌, ◌≤◌, [], ◌&&◌, ◌||◌, ℕ, Bool, take, Some}
use Rattle.cnf_base.specs.Clauses.{lit_true}
use Rattle.cnf_gate.specs.Built.{Grows}
use Rattle.asm_domain.specs.declared.value.Value.{Value}
use Rattle.enc_group.specs.Group.{Holds}
use Rattle.enc_update.specs.Updates.{pair_variables}
use Rattle.enc_rule.specs.Written.{some_pair, some_value}
use Rattle.enc_rule.proofs.written.add_values.Given as goal

-- the pairs of the values so far
abbrev pub invariant-loop-entry : goal.invariant-loop-entry
invariant-loop-entry l = record {
  grows : Grows l.fn.builder l.builder [] [];
  means : (v : ℕ → Bool) → Holds v l.builder → (q : ℕ → Value → Bool) → some_pair v l.pairs q ≡ (some_pair v l.fn.pairs q || (some_value v q (take l.entry-index l.values) (Some l.slot) && lit_true v l.guard));
  within : pair_variables l.pairs ≤ l.builder.count;
}
