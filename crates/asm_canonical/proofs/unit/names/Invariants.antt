use Rattle.std.proofs.Common.{◌≡◌, ◌++◌, drop}
use Rattle.std.specs.Prelude.{map}
use Rattle.asm_canonical.specs.Pieces.{left_of, name_text, names_text}
use Rattle.asm_canonical.proofs.unit.names.Given as goal

abbrev pub invariant-items : goal.invariant-items
invariant-items l = l.text ++ left_of l.mark l.index (map name_text (drop l.index l.items)) ≡ l.initial.text ++ names_text l.mark l.items
