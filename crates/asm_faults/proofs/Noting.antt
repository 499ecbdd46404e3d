-- Faults that are noted one list after the other.
use Rattle.std.proofs.Common.{◌≡◌, Bool as Truth, if◌then◌else◌, List, [], ◌∷◌, ◌++◌, Option, Some, refl, sym, ap, subst}
use Rattle.asm_faults.specs.declared.fault.Fault.{Fault}
use Rattle.asm_faults.specs.First.{noted, sooner, is_before}

pub noted_append : (first : Option Fault) (xs ys : List Fault) → noted first (xs ++ ys) ≡ noted (noted first xs) ys
noted_append first [] ys = refl
noted_append first (x ∷ xs) ys = noted_append (sooner first x) xs ys

pub chosen : (kept : Option Fault) (b a : Fault) (t : Truth) → kept ≡ Some b → t ≡ is_before a b → sooner kept a ≡ (if t then Some a else kept)
chosen kept b a t e f = subst (λ (p : Option Fault). sooner p a ≡ (if t then Some a else p)) (sym e) (ap (λ (u : Truth). if u then Some a else Some b) (sym f))
