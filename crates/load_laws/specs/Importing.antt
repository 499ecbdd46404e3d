-- How the files of a model import one another, and in which order their units stand.
use Rattle.std.specs.Prelude.{◌≡◌, ◌≢◌, ◌<◌, ◌≤◌, ◌-◌, ℕ, zero, suc, Bool, true, false, List, [], ◌∷◌, ◌++◌, length, slice_get, bytes_eq, Some, Ok}
use Rattle.std.specs.List.{list_any}
use Rattle.std.specs.Option.{option_map_or}
use Rattle.std.specs.FinMap.{get}
use Rattle.asm_io.specs.Outside.{Files}
use Rattle.asm_source.specs.declared.sources.Source.{Source}
use Rattle.asm_tree.specs.declared.unit.RawPath.{RawPath}
use Rattle.asm_tree.specs.declared.unit.RawUnit.{RawUnit}
use Rattle.asm_tree.specs.declared.unit.LoadedUnit.{LoadedUnit}
use Rattle.asm_unit.specs.Import.{import_name, reads_no_file}
use Rattle.asm_unit.specs.Loading.{most_files}
use Rattle.asm_unit.specs.Spelled.{tree_of}

-- ---- imports

-- the file of this name holds a text that spells the unit
pub record Holds (files : Files) (name : List ℕ) (unit : RawUnit) : Type 0 where
  pub file : ℕ
  pub text : List ℕ
  pub held : get files name ≡ Some text
  pub spelled : tree_of file text ≡ Ok unit

-- the first file imports the second: one of the paths of its unit reads a file of that name
pub record Imports (files : Files) (from name : List ℕ) : Type 0 where
  pub unit : RawUnit
  pub holds : Holds files from unit
  pub place : ℕ
  pub path : RawPath
  pub listed : slice_get unit.imports place ≡ Some path
  pub reads : reads_no_file path ≡ false
  pub named : import_name from path ≡ name

-- so many imports, one after the other, lead from the first file to the second
unfoldable pub Leads : Files → ℕ → List ℕ → List ℕ → Type 0
Leads files zero from name = from ≡ name
Leads files (suc count) from name = (mid : List ℕ) × (Leads files count from mid) × Imports files mid name

-- the second file is the first, or imports lead to it
pub record Reaches (files : Files) (from name : List ℕ) : Type 0 where
  pub count : ℕ
  pub leads : Leads files count from name

-- one import or more lead from the first file to the second
pub record ImportsAtLast (files : Files) (from name : List ℕ) : Type 0 where
  pub count : ℕ
  pub leads : Leads files (suc count) from name

-- ---- the order of units

-- the name of the file of this number
abbrev pub name_at : List Source → ℕ → List ℕ
name_at sources file = option_map_or (λ (source : Source). source.name) (slice_get sources file) []

-- one of the units is that of a file of this name
abbrev pub has_unit : (ℕ → List ℕ) → List LoadedUnit → List ℕ → Bool
has_unit named units name = list_any (λ (loaded : LoadedUnit). bytes_eq (named loaded.file) name) units

-- each file that the unit imports has its unit among the earlier ones, and its own file has none there
pub record StandsBehind (named : ℕ → List ℕ) (earlier : List LoadedUnit) (loaded : LoadedUnit) : Type 0 where
  pub imports : (place : ℕ) (path : RawPath) → slice_get loaded.unit.imports place ≡ Some path → reads_no_file path ≡ false → has_unit named earlier (import_name (named loaded.file) path) ≡ true
  pub once : has_unit named earlier (named loaded.file) ≡ false

-- so stands each of the units, behind those before it
unfoldable pub StandInOrder : (ℕ → List ℕ) → List LoadedUnit → List LoadedUnit → Type 0
StandInOrder named earlier [] = Unit {0}
StandInOrder named earlier (loaded ∷ rest) = StandsBehind named earlier loaded × StandInOrder named (earlier ++ loaded ∷ []) rest

-- the last unit is that of the first file that was read for the model, which has this name
pub record EndsWith (name : List ℕ) (before now : List Source) (units : List LoadedUnit) : Type 0 where
  pub earlier : List LoadedUnit
  pub unit : RawUnit
  pub units_are : units ≡ earlier ++ record { file = length before; unit = unit } ∷ []
  pub file_is : name_at now (length before) ≡ name

-- ---- the files that were read

-- imports lead to each file that was read for the model, and each has a name of its own
pub record AreReached (files : Files) (name : List ℕ) (before now : List Source) : Type 0 where
  pub reached : (file : ℕ) → length before ≤ file → file < length now → Reaches files name (name_at now file)
  pub apart : (one other : ℕ) → length before ≤ one → one < other → other < length now → name_at now one ≢ name_at now other

-- imports lead to one file more than there may be
pub record IsOneTooMany (files : Files) (start : List ℕ) (before now : List Source) (name : List ℕ) : Type 0 where
  pub full : most_files ≤ length now - length before
  pub reached : Reaches files start name
  pub unread : (file : ℕ) → length before ≤ file → file < length now → name_at now file ≢ name

-- imports lead to a file that imports itself, by others or at once
pub record IsOnCycle (files : Files) (start name : List ℕ) : Type 0 where
  pub reached : Reaches files start name
  pub cycle : ImportsAtLast files name name
