use Rattle.std.proofs.Common.{◌≡◌, ◌++◌, ◌∷◌, drop}
use Rattle.std.specs.List.{flat_map}
use Rattle.std.specs.String.{string_bytes}
use Rattle.asm_unit.specs.Path.{joined, slash, texts}
use Rattle.asm_unit.proofs.path.joined.Given as goal

-- the text so far and the parts that are left
abbrev pub invariant-parts : goal.invariant-parts
invariant-parts l = string_bytes l.text ++ flat_map (λ part. slash ∷ part) (texts (drop l.part-index l.more)) ≡ joined (texts l.parts)
