use Rattle.std.proofs.Common.{◌≡◌, ◌++◌, drop}
use Rattle.std.specs.Prelude.{map}
use Rattle.asm_canonical.specs.Document.{text_in, commas}
use Rattle.asm_canonical.specs.Pieces.{listed}
use Rattle.asm_canonical.specs.Units.{int_doc}
use Rattle.asm_canonical.proofs.unit.ints.Given as goal

abbrev pub invariant-items : goal.invariant-items
invariant-items l = l.text ++ listed l.index (map int_doc (drop l.index l.items)) ≡ l.initial.text ++ text_in (commas (map int_doc l.items))
