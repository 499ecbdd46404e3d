-- What the model check comes to: the model of files, or what is told of the first fault.
use Rattle.std.specs.Prelude.{◌≡◌, ℕ, List, [], ◌∷◌, Option, Some, slice_get}
use Rattle.std.specs.Option.{option_map, unwrap_or}
use Rattle.asm_source.specs.declared.sources.Place.{Place}
use Rattle.asm_sign.specs.Vocabulary.{Vocabulary}
use Rattle.asm_tree.specs.declared.unit.LoadedUnit.{LoadedUnit}
use Rattle.asm_faults.specs.declared.fault.Fault.{Fault as Found}
use Rattle.asm_faults.specs.DomainFaults.{name_faults, domain_faults}
use Rattle.asm_faults.specs.FunctionFaults.{function_faults}
use Rattle.asm_faults.specs.Bodies.{body_faults}
use Rattle.asm_faults.specs.Missing.{missing_faults}
use Rattle.asm_faults.specs.Calls.{call_faults, read_faults}
use Rattle.asm_faults.specs.Ranges.{range_faults}
use Rattle.asm_faults.specs.declared.error.ModelError.{ModelError}
use Rattle.asm_faults.specs.declared.error.ModelError.TheVariants.{Fault, Memory}

-- the number among the sources of the file of a unit
abbrev pub file_of : List LoadedUnit → ℕ → ℕ
file_of units n = unwrap_or (option_map (λ (u : LoadedUnit). u.file) (slice_get units n)) 0

-- a fault is told by its kind, the text of its token, and the place of that in its file
abbrev pub told_of : List LoadedUnit → Found → ModelError
told_of units f = Fault f.kind f.name (record { file = file_of units f.unit; at = f.at })

-- this is told of a fault, where there is one; of want of memory nothing is said
abbrev pub Tells : List LoadedUnit → Option Found → ModelError → Type 0
Tells units first (Fault kind name place) = option_map (told_of units) first ≡ Some (Fault kind name place)
Tells units first Memory = Unit {0}

-- ---- the passes in three groups

abbrev pub declaration_faults : List LoadedUnit → List (List Found)
declaration_faults units = name_faults units ∷ domain_faults units ∷ []

-- names and domains, then functions
abbrev pub signature_faults : List LoadedUnit → List (List Found)
signature_faults units = name_faults units ∷ domain_faults units ∷ function_faults units ∷ []

-- calls, reads and intervals
abbrev pub reach_faults : Vocabulary → List LoadedUnit → List (List Found)
reach_faults v units = call_faults v units ∷ read_faults v units ∷ range_faults v units ∷ []

-- bodies and what is missing, then the others
abbrev pub use_faults : Vocabulary → List LoadedUnit → List (List Found)
use_faults v units = body_faults v units ∷ missing_faults units ∷ reach_faults v units
