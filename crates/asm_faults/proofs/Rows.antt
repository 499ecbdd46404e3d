-- Small models and their first faults, by computation.
use Rattle.std.proofs.Common.{◌≡◌, ℕ, ℤ, pos, List, [], ◌∷◌, Some, None, refl}
use Rattle.std.specs.Prelude.{codes}
use Rattle.asm_tree.specs.declared.term.RawName.{RawName}
use Rattle.asm_tree.specs.declared.unit.RawInt.{RawInt}
use Rattle.asm_tree.specs.declared.unit.RawDeclaration.{RawDeclaration}
use Rattle.asm_tree.specs.declared.unit.RawDeclaration.TheVariants as declared
use Rattle.asm_tree.specs.declared.unit.RawDefinition.{RawDefinition}
use Rattle.asm_tree.specs.declared.unit.RawDefinition.TheVariants as defined
use Rattle.asm_tree.specs.declared.unit.RawFunctionKind.{RawFunctionKind}
use Rattle.asm_tree.specs.declared.unit.RawFunctionKind.TheVariants.{Controlled}
use Rattle.asm_tree.specs.declared.unit.RawUnitKind.TheVariants.{Asm}
use Rattle.asm_tree.specs.declared.unit.LoadedUnit.{LoadedUnit}
use Rattle.asm_faults.specs.declared.fault.ModelFault.TheVariants.{Duplicate, Unknown, WrongKind, WrongArity, EmptyDomain, DomainTooLarge, TooManyLocations, NoDefinition, NoMain}
use Rattle.asm_faults.specs.At.{Name, token}
use Rattle.asm_faults.specs.Check.{model_fault}

abbrev name : ℕ → Name → RawName
name at text = record { at = at; text = text }

abbrev boolean : RawName
boolean = name 0 (codes "Boolean")

abbrev integer : RawName
integer = name 0 (codes "Integer")

abbrev function : RawFunctionKind → ℕ → Name → List RawName → RawName → RawDeclaration
function kind at f domains codomain = declared.Function kind (name at f) domains codomain

abbrev controlled : ℕ → Name → RawName → RawDeclaration
controlled at f codomain = function Controlled at f [] codomain

abbrev integral : ℕ → ℤ → RawInt
integral at z = record { at = at; first = codes "number"; value = z }

abbrev t : Name
t = codes "t"

-- an `asm` of one file without a main rule
abbrev model : List RawDeclaration → List RawDefinition → List LoadedUnit
model declarations definitions = record {
  file = 0;
  unit = record { kind = Asm; name = name 4 t; imports = []; declarations = declarations; definitions = definitions; main = None; init = None };
} ∷ []

abbrev x : Name
x = codes "x"

abbrev d : Name
d = codes "D"

abbrev part : RawDeclaration
part = declared.Subset (name 10 d) integer

abbrev from_to : ℤ → ℤ → RawDefinition
from_to low high = defined.Range (name 60 d) (integral 64 low) (integral 70 high)

-- the main rule is missed last of all
no_main : model_fault (model (part ∷ controlled 20 x (name 24 d) ∷ []) (from_to (pos 1) (pos 256) ∷ [])) ≡ Some (token NoMain 0 4 t)
no_main = refl

-- a name that is declared again is told at the second place, a name of a domain that is always there at the first
twice : model_fault (model (controlled 10 x boolean ∷ controlled 20 x boolean ∷ []) []) ≡ Some (token Duplicate 0 20 x)
twice = refl

always_there : model_fault (model (declared.Abstract (name 10 (codes "Integer")) ∷ []) []) ≡ Some (token Duplicate 0 10 (codes "Integer"))
always_there = refl

-- domains without elements, with too many, without a definition, of another domain, with a number twice
empty : model_fault (model (part ∷ []) (from_to (pos 3) (pos 1) ∷ [])) ≡ Some (token EmptyDomain 0 10 d)
empty = refl

too_large : model_fault (model (part ∷ []) (from_to (pos 1) (pos 257) ∷ [])) ≡ Some (token DomainTooLarge 0 10 d)
too_large = refl

undefined : model_fault (model (part ∷ []) []) ≡ Some (token NoDefinition 0 10 d)
undefined = refl

of_another : model_fault (model (declared.Subset (name 10 d) (name 20 x) ∷ []) (from_to (pos 1) (pos 2) ∷ [])) ≡ Some (token WrongKind 0 20 x)
of_another = refl

repeated : model_fault (model (part ∷ []) (defined.List (name 60 d) (integral 64 (pos 1) ∷ integral 66 (pos 2) ∷ integral 68 (pos 1) ∷ []) ∷ [])) ≡ Some (token Duplicate 0 68 (codes "number"))
repeated = refl

-- definitions of a domain that isn't declared, and of one that is always there
undeclared : model_fault (model [] (from_to (pos 1) (pos 2) ∷ [])) ≡ Some (token Unknown 0 60 d)
undeclared = refl

fixed : model_fault (model [] (defined.Range boolean (integral 64 (pos 1)) (integral 70 (pos 2)) ∷ [])) ≡ Some (token WrongKind 0 0 (codes "Boolean"))
fixed = refl

-- functions over unknown domains, over all whole numbers, of five arguments, with too many locations
unknown : model_fault (model (controlled 10 x (name 14 d) ∷ []) []) ≡ Some (token Unknown 0 14 d)
unknown = refl

infinite : model_fault (model (controlled 10 x (name 14 (codes "Integer")) ∷ []) []) ≡ Some (token DomainTooLarge 0 14 (codes "Integer"))
infinite = refl

five : model_fault (model (function Controlled 10 x (boolean ∷ boolean ∷ boolean ∷ boolean ∷ boolean ∷ []) boolean ∷ []) []) ≡ Some (token WrongArity 0 10 x)
five = refl

many : model_fault (model (part ∷ controlled 20 t boolean ∷ function Controlled 30 x (name 34 d ∷ name 36 d ∷ []) boolean ∷ []) (from_to (pos 1) (pos 64) ∷ [])) ≡ Some (token TooManyLocations 0 30 x)
many = refl
