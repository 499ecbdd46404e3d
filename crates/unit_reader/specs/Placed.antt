-- A part of a path with its place.
use Rattle.std.specs.Prelude.{ℕ}
use Rattle.asm_tree.specs.Language.{TokenText}
use Rattle.asm_tree.specs.declared.unit.RawPart.{RawPart}

abbrev pub part_at : TokenText × RawPart → ℕ × RawPart
part_at p = (p.0.at, p.1)
