use Rattle.std.proofs.Common.{◌≡◌, ◌≤◌, ◌+◌, ◌*◌, [], length, ℕ, Bool, take, ◌&&◌}
use Rattle.cnf_base.specs.Clauses.{lit_true}
use Rattle.cnf_gate.specs.Built.{Grows, size_of}
use Rattle.asm_domain.specs.declared.value.Value.{Value}
use Rattle.enc_group.specs.Group.{Holds}
use Rattle.enc_update.specs.Updates.{has_pair, pair_variables}
use Rattle.enc_update.proofs.guarded.pairs_under.Given as goal

-- the pairs so far under the guard
abbrev pub invariant-loop-pair : goal.invariant-loop-pair
invariant-loop-pair l = record {
  grows : Grows l.fn.builder l.builder [] [];
  means : (v : ℕ → Bool) → Holds v l.builder → (s : ℕ) (x : Value) → has_pair v l.under s x ≡ (lit_true v l.guard && has_pair v (take l.pair-index l.pairs) s x);
  long : length l.under ≡ l.pair-index;
  within : pair_variables l.under ≤ l.builder.count;
  count : l.builder.count ≤ l.fn.builder.count + l.pair-index;
  size : size_of l.builder ≤ size_of l.fn.builder + 7 * l.pair-index;
}
