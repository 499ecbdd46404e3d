-- Locations of functions, counted one function after the other.
use Rattle.std.specs.Prelude.{◌≡◌, ℕ, ◌+◌, ◌≤◌, nat_lt, if◌then◌else◌, List, [], ◌∷◌, Option}
use Rattle.asm_sign.specs.declared.function.DeclaredDomain.{DeclaredDomain}
use Rattle.asm_faults.specs.declared.fault.Fault.{Fault}
use Rattle.asm_faults.specs.First.{noted}
use Rattle.asm_faults.specs.Files.{DeclaredFunction}
use Rattle.asm_faults.specs.FunctionFaults.{location_count, location_faults}
use Rattle.asm_declare.specs.Measures.{capped}

-- so many locations with those of more functions, or 4,097 for all greater numbers
abbrev pub count_after : List DeclaredDomain → ℕ → List DeclaredFunction → ℕ
count_after domains before [] = before
count_after domains before (f ∷ fs) = count_after domains (capped (before + location_count domains f)) fs

-- what is wrong with more functions; nothing where there were too many locations before
abbrev pub faults_after : List DeclaredDomain → ℕ → List DeclaredFunction → List Fault
faults_after domains before fs = if nat_lt 4096 before then [] else location_faults domains before fs

-- these functions came behind so many locations
pub record AreCounted (domains : List DeclaredDomain) (first : Option Fault) (before : ℕ) (fs : List DeclaredFunction) (now : Option Fault) (after : ℕ) : Type 0 where
  pub noted_is : now ≡ noted first (faults_after domains before fs)
  pub count_is : after ≡ count_after domains before fs
  pub few : after ≤ 4097
