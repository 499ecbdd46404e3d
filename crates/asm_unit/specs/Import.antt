-- Which file an import names.
use Rattle.std.specs.Prelude.{ℕ, ◌-◌, Bool, false, ◌==◌, ◌&&◌, ◌||◌, List, [], ◌∷◌, ◌++◌, length, map, if◌then◌else◌, codes, bytes_eq, slice_get, unwrap_or}
use Rattle.std.specs.List.{list_any}
use Rattle.std.specs.Option.{option_map_or}
use Rattle.asm_tree.specs.declared.unit.RawPart.{RawPart}
use Rattle.asm_tree.specs.declared.unit.RawPart.TheVariants.{Here, Above, Word, Dotted}
use Rattle.asm_tree.specs.declared.unit.RawPath.{RawPath}
use Rattle.asm_unit.specs.Path.{name_parts, without_last, kept_parts, joined}

-- `.`
abbrev pub dot : ℕ
dot = 46

abbrev pub part_text : RawPart → List ℕ
part_text Here = codes "."
part_text Above = codes ".."
part_text (Word word) = word
part_text (Dotted word ending) = word ++ dot ∷ ending

abbrev pub last_part : List (List ℕ) → List ℕ
last_part parts = unwrap_or (slice_get parts (length parts - 1)) []

-- `.asm`, where the last part has no `.`
abbrev pub ending : List (List ℕ) → List ℕ
ending parts = if list_any (λ b. b == dot) (last_part parts) then [] else codes ".asm"

-- the name in the importing file's folder, in its normal form
abbrev pub import_parts : List ℕ → List (List ℕ) → List (List ℕ)
import_parts from parts = kept_parts (without_last (name_parts from) ++ parts)

-- the name of the file that a path names, in a file of the name `from`
abbrev pub import_name : List ℕ → RawPath → List ℕ
import_name from path = joined (import_parts from (map part_text path.parts)) ++ ending (import_parts from (map part_text path.parts))

abbrev pub is_library : List ℕ → Bool
is_library word = bytes_eq word (codes "StandardLibrary") || bytes_eq word (codes "CTLLibrary")

-- a standard library, with or without `.asm`
abbrev pub is_standard : RawPart → Bool
is_standard Here = false
is_standard Above = false
is_standard (Word word) = is_library word
is_standard (Dotted word ending) = is_library word && bytes_eq ending (codes "asm")

-- the path's last part is a standard library, which is no file
abbrev pub reads_no_file : RawPath → Bool
reads_no_file path = option_map_or is_standard (slice_get path.parts (length path.parts - 1)) false
