use Rattle.std.proofs.Common.{◌≡◌, ◌++◌, drop}
use Rattle.std.specs.Prelude.{map}
use Rattle.asm_canonical.specs.Document.{text_in, lines}
use Rattle.asm_canonical.specs.Units.{definition_doc}
use Rattle.asm_canonical.proofs.unit.definitions.Given as goal

abbrev pub invariant-items : goal.invariant-items
invariant-items l = l.text ++ text_in (lines 1 (map definition_doc (drop l.item-index l.items))) ≡ l.initial.text ++ text_in (lines 1 (map definition_doc l.items))
