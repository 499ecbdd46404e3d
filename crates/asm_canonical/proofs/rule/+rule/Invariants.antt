use Rattle.std.proofs.Common.{◌≡◌, ◌++◌, drop}
use Rattle.asm_canonical.specs.Document.{text_in}
use Rattle.asm_canonical.specs.Pieces.{rules_doc, cases_doc}
use Rattle.asm_canonical.proofs.rule.+rule.Given as goal

abbrev pub invariant-rules-items : goal.invariant-rules-items
invariant-rules-items l = l.text ++ text_in (rules_doc l.level (drop l.item-index l.items)) ≡ l.initial.text ++ text_in (rules_doc l.level l.items)

abbrev pub invariant-cases-items : goal.invariant-cases-items
invariant-cases-items l = l.text ++ text_in (cases_doc l.level (drop l.item-index l.items)) ≡ l.initial.text ++ text_in (cases_doc l.level l.items)
