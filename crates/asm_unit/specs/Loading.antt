-- The files of a model: which are read, in which order, and the units that they are.
use Rattle.std.specs.Prelude.{◌≡◌, ◌≢◌, ◌<◌, ◌≤◌, All, ℕ, zero, suc, ◌+◌, ◌-◌, Bool, true, ◌==◌, List, [], ◌∷◌, ◌++◌, length, drop, slice_get, position, if◌then◌else◌, nat_lt, nat_le, bytes_eq, Option, Some, None, Result, Ok, Err}
use Rattle.std.specs.List.{list_any}
use Rattle.std.specs.FinMap.{get}
use Rattle.asm_io.specs.Outside.{Files}
use Rattle.asm_source.specs.declared.sources.Source.{Source}
use Rattle.asm_source.specs.Spots.{text_of}
use Rattle.asm_lex.specs.declared.token.Token.{Token}
use Rattle.asm_tree.specs.declared.unit.RawPath.{RawPath}
use Rattle.asm_tree.specs.declared.unit.RawUnit.{RawUnit}
use Rattle.asm_tree.specs.declared.unit.LoadedUnit.{LoadedUnit}
use Rattle.asm_unit.specs.declared.error.LoadError.{LoadError}
use Rattle.asm_unit.specs.declared.error.LoadError.TheVariants.{Absent, TooLong, Read, Lex, Parse, ImportCycle, TooManyFiles, Memory}
use Rattle.asm_unit.specs.Path.{normalised}
use Rattle.asm_unit.specs.Import.{import_name, reads_no_file}
use Rattle.asm_unit.specs.Spelled.{tokens_of, tree_of}

-- ---- limits

-- the greatest number of bytes of a model's file
abbrev pub most_bytes : ℕ
most_bytes = 262144

-- the greatest number of files of a model
abbrev pub most_files : ℕ
most_files = 64

-- ---- what reading files comes to

-- the files that were read, earlier ones first, and what came of it: a value, or the first fault
pub record Outcome (A : Type 0) : Type 0 where
  pub sources : List Source
  pub end : Result A LoadError

abbrev pub ended : {A : Type 0} → List Source → A → Outcome A
ended sources value = record { sources = sources; end = Ok value }

abbrev pub refused : {A : Type 0} → List Source → LoadError → Outcome A
refused sources fault = record { sources = sources; end = Err fault }

abbrev pub onward : {A B : Type 0} → List Source → Result A LoadError → (List Source → A → Outcome B) → Outcome B
onward sources (Ok value) next = next sources value
onward sources (Err fault) next = refused sources fault

-- what comes next, where there was no fault
abbrev pub and_then : {A B : Type 0} → Outcome A → (List Source → A → Outcome B) → Outcome B
and_then o next = onward o.sources o.end next

-- ---- one file

-- The file of this name may be there, and is what `of` says of its number and its text. It is added to the files, also where it is refused for its text.
abbrev pub held_as : {A : Type 0} → (ℕ → List ℕ → Result A LoadError) → ℕ → List ℕ → List Source → Option (List ℕ) → Outcome A
held_as of limit name sources None = refused sources (Absent name)
held_as of limit name sources (Some text) = if nat_lt limit (length text) then refused sources (TooLong name) else record { sources = sources ++ record { name = name; text = text } ∷ []; end = of (length sources) text }

-- the tokens of the file of this name
abbrev pub tokens_in : Files → ℕ → List ℕ → List Source → Outcome (List Token)
tokens_in files limit name sources = held_as tokens_of limit (normalised name) sources (get files (normalised name))

-- the unit of the file of this name, without its imports
abbrev pub unit_in : Files → List ℕ → List Source → Outcome RawUnit
unit_in files name sources = held_as tree_of most_bytes (normalised name) sources (get files (normalised name))

-- ---- the files of a model

-- what comes of a file's name where these files were read and these units are loaded
abbrev pub Visit : Type 0
Visit = List ℕ → List Source → List LoadedUnit → Outcome (List LoadedUnit)

-- the imports of a file of this name, one after the other
abbrev pub imports_by : Visit → List ℕ → List RawPath → List Source → List LoadedUnit → Outcome (List LoadedUnit)
imports_by visit from [] sources units = ended sources units
imports_by visit from (path ∷ paths) sources units =
    if reads_no_file path then imports_by visit from paths sources units
    else and_then (visit (import_name from path) sources units) (imports_by visit from paths)

-- a unit stands behind all that it imports
abbrev pub unit_by : Visit → ℕ → List ℕ → List LoadedUnit → List Source → RawUnit → Outcome (List LoadedUnit)
unit_by visit file name units sources unit = and_then (imports_by visit name unit.imports sources units) (λ read loaded. ended read (loaded ++ record { file = file; unit = unit } ∷ []))

-- the unit of the file of this number is loaded
abbrev pub is_loaded : ℕ → List LoadedUnit → Bool
is_loaded file units = list_any (λ (loaded : LoadedUnit). loaded.file == file) units

-- a name that was read before: its unit is loaded, or its imports are being loaded
abbrev pub again : ℕ → List ℕ → List LoadedUnit → Result (List LoadedUnit) LoadError
again file name units = if is_loaded file units then Ok units else Err (ImportCycle name)

-- the place of a name among the files that were read, but for so many first ones
abbrev pub place_of : ℕ → List ℕ → List Source → Option ℕ
place_of first name sources = position (λ (source : Source). bytes_eq source.name name) (drop first sources)

-- a name that was read before, or a new one, of which that comes
abbrev pub met : ℕ → Option ℕ → List ℕ → List Source → List LoadedUnit → Outcome (List LoadedUnit) → Outcome (List LoadedUnit)
met first (Some place) name sources units new = record { sources = sources; end = again (first + place) name units }
met first None name sources units new = new

-- the files of one model, where so many files were read before for others
module _ (files : Files) (first : ℕ) where
  -- a name: one that was read before, or a new one
  abbrev pub visit_by : Visit → Visit
  visit_by new name sources units = met first (place_of first name sources) name sources units (new name sources units)

  -- a file that is read, where there is room for one more
  abbrev pub opened_by : Visit → Visit
  opened_by visit name sources units =
      if nat_le most_files (length sources - first) then refused sources (TooManyFiles name)
      else and_then (held_as tree_of most_bytes name sources (get files name)) (unit_by visit (length sources) name units)

  -- A file that wasn't read before. The number says how deep imports may nest: the files whose imports are being loaded were read, so where so many nest there is no room.
  unfoldable pub new_file : ℕ → Visit
  new_file zero name sources units = refused sources (TooManyFiles name)
  new_file (suc levels) name sources units = opened_by (visit_by (new_file levels)) name sources units

-- the units of the model of this name in load order, where these files were read before
abbrev pub units_in : Files → List ℕ → List Source → Outcome (List LoadedUnit)
units_in files name sources = new_file files (length sources) most_files (normalised name) sources []

-- ---- what the calls do

-- the first list begins the second
pub record IsFront (front whole : List Source) : Type 0 where
  pub rest : List Source
  pub whole_is : whole ≡ front ++ rest

-- It is that answer, unless memory ran out.
abbrev pub Judges : {A : Type 0} → Result A LoadError → Result A LoadError → Type 0
Judges (Ok value) o = o ≡ Ok value
Judges (Err e) o = e ≢ Memory → o ≡ Err e

-- the text that is held under a name, or why it isn't read
abbrev pub ReadsText : ℕ → List ℕ → Option (List ℕ) → Result (List ℕ) LoadError → Type 0
ReadsText limit name held (Ok text) = held ≡ Some text
ReadsText limit name held (Err (Absent n)) = (n ≡ name) × (held ≡ None)
ReadsText limit name held (Err (TooLong n)) = (n ≡ name) × ((text : List ℕ) × (held ≡ Some text) × (limit < length text))
ReadsText limit name held (Err (Read n)) = n ≡ name
ReadsText limit name held (Err (Lex place e)) = ⊥
ReadsText limit name held (Err (Parse place e)) = ⊥
ReadsText limit name held (Err (ImportCycle n)) = ⊥
ReadsText limit name held (Err (TooManyFiles n)) = ⊥
ReadsText limit name held (Err Memory) = Unit {0}

-- the name that is asked for after so many files were read: that of the next one, or of the one that isn't read
abbrev pub of_end : {A : Type 0} → Result A LoadError → Option (List ℕ)
of_end (Ok value) = None
of_end (Err (Absent name)) = Some name
of_end (Err (TooLong name)) = Some name
of_end (Err (Read name)) = Some name
of_end (Err (Lex place e)) = None
of_end (Err (Parse place e)) = None
of_end (Err (ImportCycle name)) = None
of_end (Err (TooManyFiles name)) = None
of_end (Err Memory) = None

abbrev pub asked_by : {A : Type 0} → Result A LoadError → Option Source → Option (List ℕ)
asked_by end (Some source) = Some source.name
asked_by end None = of_end end

-- a call that the shelf failed has read a front of the files, and names the one that it asked for next
pub record IsFailed {A : Type 0} (o : Outcome A) (now : List Source) (name : List ℕ) : Type 0 where
  pub front : IsFront now o.sources
  pub asked : asked_by o.end (slice_get o.sources (length now)) ≡ Some name

-- A call ends as is defined, with the files that are defined. Where memory ran out or the shelf failed, it has read a front of them.
abbrev pub Fails : {A : Type 0} → Outcome A → List Source → LoadError → Type 0
Fails o now (Absent name) = o ≡ refused now (Absent name)
Fails o now (TooLong name) = o ≡ refused now (TooLong name)
Fails o now (Read name) = IsFailed o now name
Fails o now (Lex place e) = o ≡ refused now (Lex place e)
Fails o now (Parse place e) = o ≡ refused now (Parse place e)
Fails o now (ImportCycle name) = o ≡ refused now (ImportCycle name)
Fails o now (TooManyFiles name) = o ≡ refused now (TooManyFiles name)
Fails o now Memory = IsFront now o.sources

abbrev pub Follows : {A : Type 0} → Outcome A → List Source → Result A LoadError → Type 0
Follows o now (Ok value) = o ≡ ended now value
Follows o now (Err e) = Fails o now e

-- ---- what the sources themselves show

-- files were added, each of at most so many bytes
pub record AddsFiles (limit : ℕ) (before now : List Source) : Type 0 where
  pub added : List Source
  pub now_is : now ≡ before ++ added
  pub short : All (λ (source : Source). length source.text ≤ limit) added

-- the file of this number is there, and its text is judged so
pub record IsJudged {A : Type 0} (of : ℕ → List ℕ → Result A LoadError) (sources : List Source) (file : ℕ) (result : Result A LoadError) : Type 0 where
  pub listed : file < length sources
  pub judged : of file (text_of sources file) ≡ result

-- a fault of a text is that of the text of the file that it names
abbrev pub IsFault : {A : Type 0} → (ℕ → List ℕ → Result A LoadError) → List Source → LoadError → Type 0
IsFault of sources (Absent name) = Unit {0}
IsFault of sources (TooLong name) = Unit {0}
IsFault of sources (Read name) = Unit {0}
IsFault of sources (Lex place e) = IsJudged of sources place.file (Err (Lex place e))
IsFault of sources (Parse place e) = IsJudged of sources place.file (Err (Parse place e))
IsFault of sources (ImportCycle name) = Unit {0}
IsFault of sources (TooManyFiles name) = Unit {0}
IsFault of sources Memory = Unit {0}

-- a text wasn't read: the fault names its file, or memory is wanting
abbrev pub IsOfFile : List ℕ → LoadError → Type 0
IsOfFile name (Absent n) = n ≡ name
IsOfFile name (TooLong n) = n ≡ name
IsOfFile name (Read n) = n ≡ name
IsOfFile name (Lex place e) = ⊥
IsOfFile name (Parse place e) = ⊥
IsOfFile name (ImportCycle n) = ⊥
IsOfFile name (TooManyFiles n) = ⊥
IsOfFile name Memory = Unit {0}

-- what one file is refused for: it isn't read, or its text is at fault
abbrev pub IsOfOne : List ℕ → LoadError → Type 0
IsOfOne name (Absent n) = n ≡ name
IsOfOne name (TooLong n) = n ≡ name
IsOfOne name (Read n) = n ≡ name
IsOfOne name (Lex place e) = Unit {0}
IsOfOne name (Parse place e) = Unit {0}
IsOfOne name (ImportCycle n) = ⊥
IsOfOne name (TooManyFiles n) = ⊥
IsOfOne name Memory = Unit {0}

-- each unit is what the text of its file spells
abbrev pub AreUnits : List Source → List LoadedUnit → Type 0
AreUnits sources units = All (λ (loaded : LoadedUnit). IsJudged tree_of sources loaded.file (Ok loaded.unit)) units

-- no file more may be read, where so many levels are left and so many files were read
abbrev pub is_full : ℕ → ℕ → Bool
is_full zero files = true
is_full (suc levels) files = nat_le most_files files

-- it holds, where the shelf has failed
abbrev pub OnRead : LoadError → Type 0 → Type 0
OnRead (Absent name) P = Unit {0}
OnRead (TooLong name) P = Unit {0}
OnRead (Read name) P = P
OnRead (Lex place e) P = Unit {0}
OnRead (Parse place e) P = Unit {0}
OnRead (ImportCycle name) P = Unit {0}
OnRead (TooManyFiles name) P = Unit {0}
OnRead Memory P = Unit {0}
