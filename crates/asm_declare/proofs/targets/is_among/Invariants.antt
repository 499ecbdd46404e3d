use Rattle.std.proofs.Common.{◌≡◌, map, take}
use Rattle.std.specs.List.{list_any}
use Rattle.std.specs.Ordering.{int_eq}
use Rattle.asm_declare.proofs.Targeting.{value_of}
use Rattle.asm_declare.proofs.targets.is_among.Given as goal

abbrev pub invariant-loop-at : goal.invariant-loop-at
invariant-loop-at l = l.among ≡ list_any (int_eq l.numeral.value) (map value_of (take l.at l.numbers))
