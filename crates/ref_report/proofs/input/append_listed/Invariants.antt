use Rattle.std.proofs.Common.{◌≡◌, ◌++◌, drop}
use Rattle.std.specs.Prelude.{map, decimal}
use Rattle.asm_text.specs.Texts.{with_commas}
use Rattle.asm_text.proofs.Pieces.{rest_from}
use Rattle.ref_report.proofs.input.append_listed.Given as goal

abbrev pub invariant-words : goal.invariant-words
invariant-words l = l.text ++ rest_from l.index (map decimal (drop l.index l.words)) ≡ l.fn.text ++ with_commas (map decimal l.words)
