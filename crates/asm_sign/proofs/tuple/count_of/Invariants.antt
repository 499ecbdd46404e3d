use Rattle.std.proofs.Common.{◌≡◌, ℕ, ◌*◌, ◌^◌, ◌<◌, ◌≤◌, List, Some, length, map, drop, slice_get}
use Rattle.asm_domain.specs.declared.value.Value.{Value}
use Rattle.asm_domain.specs.Universe.{AreDistinct}
use Rattle.asm_sign.specs.Arguments.{elements_at}
use Rattle.asm_sign.specs.Tuples.{tuples}
use Rattle.asm_sign.proofs.tuple.count_of.Given as goal

-- the sizes so far are counted, and their lists have no repeats
abbrev pub invariant-loop-number : goal.invariant-loop-number
invariant-loop-number l = record {
  counted : l.count * length (tuples (drop l.number-index (map (elements_at l.domains) l.numbers))) ≡ length (tuples (map (elements_at l.domains) l.numbers));
  small : l.count ≤ 256 ^ l.number-index;
  distinct : (k : ℕ) (xs : List Value) → k < l.number-index → slice_get (map (elements_at l.domains) l.numbers) k ≡ Some xs → (0 < length xs) × AreDistinct xs;
}
