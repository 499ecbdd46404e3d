-- Names that are taken one after the other.
use Rattle.std.specs.Prelude.{◌≡◌, ℕ, List, ◌++◌, map, Option}
use Rattle.asm_tree.specs.declared.term.RawName.{RawName}
use Rattle.asm_faults.specs.declared.fault.Fault.{Fault}
use Rattle.asm_faults.specs.At.{Name}
use Rattle.asm_faults.specs.First.{noted}
use Rattle.asm_faults.specs.Files.{Of}
use Rattle.asm_faults.specs.DomainFaults.{repeats}

-- things of the unit of a number
abbrev pub of_unit : {A : Type 0} → ℕ → List A → List (Of A)
of_unit n items = map (λ item. (n, item)) items

abbrev pub texts : List (Of RawName) → List Name
texts names = map (λ (p : Of RawName). p.1.text) names

-- these names came behind earlier ones, and each that repeats one before it is noted
pub record AreEntered (first : Option Fault) (earlier : List Name) (names : List (Of RawName)) (now : Option Fault) (later : List Name) : Type 0 where
  pub noted_is : now ≡ noted first (repeats earlier names)
  pub names_are : later ≡ earlier ++ texts names
