use Rattle.std.proofs.Common.{◌≡◌, ◌≤◌, [], ℕ, Bool, take}
use Rattle.cnf_gate.specs.Built.{Grows}
use Rattle.asm_domain.specs.declared.value.Value.{Value}
use Rattle.enc_group.specs.Group.{Holds}
use Rattle.enc_update.specs.Updates.{pair_variables}
use Rattle.enc_rule.specs.Written.{some_pair, some_written}
use Rattle.enc_rule.proofs.written.written_pairs.Given as goal

-- the pairs of the tuples so far
abbrev pub invariant-loop-tuple : goal.invariant-loop-tuple
invariant-loop-tuple l = record {
  grows : Grows l.fn.builder l.builder [] [];
  means : (v : ℕ → Bool) → Holds v l.builder → (q : ℕ → Value → Bool) → some_pair v l.pairs q ≡ some_written v q l.signature l.function l.values (take l.tuple-index l.arguments);
  within : pair_variables l.pairs ≤ l.builder.count;
}
