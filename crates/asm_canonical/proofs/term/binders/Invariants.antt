use Rattle.std.proofs.Common.{◌≡◌, ◌++◌, drop}
use Rattle.std.specs.Prelude.{map}
use Rattle.asm_canonical.specs.Document.{text_in}
use Rattle.asm_canonical.specs.Pieces.{listed}
use Rattle.asm_canonical.specs.Terms.{binder_doc, binders_doc}
use Rattle.asm_canonical.proofs.term.binders.Given as goal

abbrev pub invariant-items : goal.invariant-items
invariant-items l = l.text ++ listed l.index (map binder_doc (drop l.index l.items)) ≡ l.initial.text ++ text_in (binders_doc l.items)
