use Rattle.std.proofs.Common.{◌≡◌, map, take}
use Rattle.asm_tree.specs.declared.unit.RawInt.{RawInt}
use Rattle.asm_declare.proofs.numerals.values.Given as goal

abbrev pub invariant-loop-number : goal.invariant-loop-number
invariant-loop-number l = l.values ≡ map (λ (x : RawInt). x.value) (take l.number-index l.numbers)
