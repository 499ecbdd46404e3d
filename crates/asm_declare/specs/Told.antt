-- The numbers that definitions of domains tell.
use Rattle.std.specs.Prelude.{ℤ, List, [], map}
use Rattle.asm_domain.specs.Universe.{numbers_between}
use Rattle.asm_tree.specs.declared.unit.RawInt.{RawInt}
use Rattle.asm_tree.specs.declared.unit.RawDefinition.{RawDefinition}
use Rattle.asm_tree.specs.declared.unit.RawDefinition.TheVariants as definition
use Rattle.asm_faults.specs.DomainFaults.{DomainDefinition, numbers_of}

-- the numbers of a definition of a domain; other definitions have none
abbrev pub numbers_in : RawDefinition → List ℤ
numbers_in (definition.Range d low high) = numbers_between low.value high.value
numbers_in (definition.List d xs) = map (λ (x : RawInt). x.value) xs
numbers_in d = []

abbrev pub told : DomainDefinition → List ℤ
told d = numbers_of d.numerals
