-- Names of files.
use Rattle.std.specs.Prelude.{ℕ, ◌-◌, Bool, false, not, ◌&&◌, ◌||◌, ◌==◌, List, [], ◌∷◌, ◌++◌, length, take, map, fold, if◌then◌else◌, codes, bytes_eq, slice_get, Option, Some, None}
use Rattle.std.specs.List.{slice_split, flat_map}
use denote.Ref.{Bor}

-- `/`
abbrev pub slash : ℕ
slash = 47

abbrev pub is_below : Option (List ℕ) → Bool
is_below None = false
is_below (Some part) = not (bytes_eq part (codes ".."))

-- the last part is there and isn't `..`
abbrev pub ends_below : List (List ℕ) → Bool
ends_below parts = is_below (slice_get parts (length parts - 1))

-- the parts without the last
abbrev pub without_last : List (List ℕ) → List (List ℕ)
without_last parts = take (length parts - 1) parts

-- an empty part and `.` are dropped; `..` takes the part before it away, unless there is none or that part is `..`
abbrev pub keep : List (List ℕ) → List ℕ → List (List ℕ)
keep kept part =
    if bytes_eq part [] || bytes_eq part (codes ".") then kept else (if bytes_eq part (codes "..") && ends_below kept then without_last kept else kept ++ part ∷ [])

-- a leading empty part stays, since the name then begins with `/`
abbrev pub keep_first : List ℕ → List (List ℕ)
keep_first part = if bytes_eq part [] then part ∷ [] else keep [] part

abbrev pub kept_parts : List (List ℕ) → List (List ℕ)
kept_parts [] = []
kept_parts (first ∷ more) = fold keep (keep_first first) more

-- the parts with `/` between each two
abbrev pub joined : List (List ℕ) → List ℕ
joined [] = []
joined (first ∷ more) = first ++ flat_map (λ part. slash ∷ part) more

-- the parts between `/`
abbrev pub name_parts : List ℕ → List (List ℕ)
name_parts name = slice_split (λ b. b == slash) name

-- the normal form of a name: its parts between `/`, of which some are dropped
abbrev pub normalised : List ℕ → List ℕ
normalised name = joined (kept_parts (name_parts name))

-- what references to texts point to
abbrev pub texts : List (Bor (List ℕ)) → List (List ℕ)
texts parts = map (λ part. part.now) parts
