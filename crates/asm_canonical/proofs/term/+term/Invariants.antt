use Rattle.std.proofs.Common.{◌≡◌, ◌++◌, drop}
use Rattle.std.specs.Prelude.{map}
use Rattle.asm_canonical.specs.Document.{text_in, commas, behind_gaps}
use Rattle.asm_canonical.specs.Pieces.{listed}
use Rattle.asm_canonical.specs.Terms.{whole_term, case_doc, bind_doc}
use Rattle.asm_canonical.proofs.term.+term.Given as goal

abbrev pub invariant-terms-items : goal.invariant-terms-items
invariant-terms-items l = l.text ++ listed l.index (map whole_term (drop l.index l.items)) ≡ l.initial.text ++ text_in (commas (map whole_term l.items))

abbrev pub invariant-cases-items : goal.invariant-cases-items
invariant-cases-items l = l.text ++ text_in (behind_gaps (map case_doc (drop l.item-index l.items))) ≡ l.initial.text ++ text_in (behind_gaps (map case_doc l.items))

abbrev pub invariant-binds-items : goal.invariant-binds-items
invariant-binds-items l = l.text ++ listed l.index (map bind_doc (drop l.index l.items)) ≡ l.initial.text ++ text_in (commas (map bind_doc l.items))
