-- Names with numbers, and an index from a text to its first number.
use Rattle.std.specs.Prelude.{◌≡◌, ℕ, ◌<◌, ◌≤◌, ◌^◌, List, [], length, map, position, slice_get, bytes_eq, Option, None, Some, All, String, string_bytes}
use Rattle.std.specs.Map.{lookup}

-- the place of the first of these names that is this one
abbrev pub number_of : List (List ℕ) → List ℕ → Option ℕ
number_of names name = position (λ other. bytes_eq other name) names

-- the text of an entry
abbrev pub text_of : {A : Type 0} → Option (String A × ℕ) → List ℕ
text_of None = []
text_of (Some entry) = string_bytes entry.0

-- the texts of the entries at these places
abbrev pub names_at : {A : Type 0} → List (String A × ℕ) → List ℕ → List (List ℕ)
names_at entries places = map (λ place. text_of (slice_get entries place)) places

-- the number beside a text among the entries
abbrev pub number_in : {A : Type 0} → List (String A × ℕ) → List ℕ → Option ℕ
number_in entries name = lookup (λ text. bytes_eq name (string_bytes text)) entries

-- the entries have the number of each name
pub record IsIndexed {A : Type 0} (entries : List (String A × ℕ)) (places : List ℕ) : Type 0 where
  pub within : All (λ place. place < length entries) places
  pub few : length entries ≤ length places
  pub short : length places < 2 ^ 32
  pub numbers : (name : List ℕ) → number_in entries name ≡ number_of (names_at entries places) name
