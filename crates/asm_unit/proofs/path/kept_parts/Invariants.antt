use Rattle.std.proofs.Common.{◌≡◌, drop}
use Rattle.std.specs.Prelude.{fold}
use Rattle.asm_unit.specs.Path.{keep, kept_parts, texts}
use Rattle.asm_unit.proofs.path.kept_parts.Given as goal

-- the parts that are left give the whole
abbrev pub invariant-parts : goal.invariant-parts
invariant-parts l = fold keep (texts l.stack.items) (texts (drop l.part-index l.more)) ≡ kept_parts (texts l.parts)
