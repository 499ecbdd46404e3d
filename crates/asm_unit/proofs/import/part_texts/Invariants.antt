use Rattle.std.proofs.Common.{◌≡◌, map, take}
use Rattle.asm_unit.specs.Import.{part_text}
use Rattle.asm_unit.proofs.import.part_texts.Given as goal

abbrev pub invariant-parts : goal.invariant-parts
invariant-parts l = l.names ≡ map part_text (take l.part-index l.parts)
