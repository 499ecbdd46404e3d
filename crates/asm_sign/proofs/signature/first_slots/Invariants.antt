use Rattle.std.proofs.Common.{◌≡◌}
use Rattle.asm_sign.specs.Indexed.{AreFirsts, first_slot}
use Rattle.asm_sign.proofs.signature.first_slots.Given as goal

-- the first slots so far, and of the next function
abbrev pub invariant-loop-function : goal.invariant-loop-function
invariant-loop-function l = record {
  are_firsts : AreFirsts l.domains l.functions l.function-index l.firsts.items;
  next_is : l.next ≡ first_slot l.domains l.functions l.function-index;
}
