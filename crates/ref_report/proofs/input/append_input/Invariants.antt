use Rattle.std.proofs.Common.{◌≡◌, ◌-◌, ◌++◌, length}
use Rattle.std.specs.List.{flat_map, range_with_len}
use Rattle.asm_sign.specs.Vocabulary.{locations}
use Rattle.ref_report.specs.Texts.{input_line, input_text}
use Rattle.ref_report.proofs.input.append_input.Given as goal

abbrev pub invariant-slots : goal.invariant-slots
invariant-slots l = l.text ++ flat_map (input_line l.signature l.input) (range_with_len l.slot (length (locations l.signature) - l.slot)) ≡ l.fn.text ++ input_text l.signature l.input
