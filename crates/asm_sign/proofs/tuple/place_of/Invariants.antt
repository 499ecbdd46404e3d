use Rattle.std.proofs.Common.{◌≡◌, ℕ, ◌+◌, ◌*◌, ◌^◌, ◌<◌, Some, length, map, drop, slice_get}
use Rattle.asm_sign.specs.Arguments.{elements_at}
use Rattle.asm_sign.specs.Tuples.{tuples}
use Rattle.asm_sign.proofs.tuple.place_of.Given as goal

-- the place of a tuple of what is left gives that of the whole tuple
abbrev pub invariant-loop-at : goal.invariant-loop-at
invariant-loop-at l = record {
  small : l.place < 256 ^ l.at;
  placed : (m : ℕ) → slice_get (tuples (drop l.at (map (elements_at l.domains) l.numbers))) m ≡ Some (drop l.at l.args) → slice_get (tuples (map (elements_at l.domains) l.numbers)) (l.place * length (tuples (drop l.at (map (elements_at l.domains) l.numbers))) + m) ≡ Some l.args;
}
