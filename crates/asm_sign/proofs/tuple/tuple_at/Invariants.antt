use Rattle.std.proofs.Common.{◌≡◌, ◌++◌, ◌<◌, List, Some, length, map, drop, slice_get}
use Rattle.asm_domain.specs.declared.value.Value.{Value}
use Rattle.asm_sign.specs.Arguments.{elements_at}
use Rattle.asm_sign.specs.Tuples.{tuples}
use Rattle.asm_sign.proofs.tuple.tuple_at.Given as goal

-- the tuple of what is left at the rest's place completes the tuple
abbrev pub invariant-loop-number : goal.invariant-loop-number
invariant-loop-number l = record {
  held : length l.args.items ≡ l.number-index;
  room : l.args.capacity ≡ 4;
  left : l.stride ≡ length (tuples (drop l.number-index (map (elements_at l.domains) l.numbers)));
  within : l.rest < l.stride;
  told : (t : List Value) → slice_get (tuples (drop l.number-index (map (elements_at l.domains) l.numbers))) l.rest ≡ Some t → slice_get (tuples (map (elements_at l.domains) l.numbers)) l.place ≡ Some (l.args.items ++ t);
}
