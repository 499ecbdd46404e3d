use Rattle.std.proofs.Common.{◌≡◌, ◌++◌, drop}
use Rattle.std.specs.Prelude.{map, codes}
use Rattle.asm_canonical.specs.Pieces.{left_of, part_text, parts_text}
use Rattle.asm_canonical.proofs.unit.parts.Given as goal

abbrev pub invariant-items : goal.invariant-items
invariant-items l = l.text ++ left_of (codes "/") l.index (map part_text (drop l.index l.items)) ≡ l.initial.text ++ parts_text l.items
