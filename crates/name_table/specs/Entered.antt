-- What it is to enter a text.
use Rattle.std.specs.Prelude.{◌≡◌, ℕ, ◌<◌, List, [], ◌∷◌, ◌++◌, length, slice_get, String, string_bytes, Option, None, Some}
use Rattle.name_table.specs.Numbered.{text_of, number_in}

-- the entries after a text got a number: it has an entry, or gets one behind all others
abbrev pub Entries : {A : Type 0} → List (String A × ℕ) → List (String A × ℕ) → List ℕ → ℕ → Option ℕ → Type 0
Entries {A} old new text number None = (key : String A) × (string_bytes key ≡ text) × (new ≡ old ++ (key, number) ∷ [])
Entries {A} old new text number (Some _) = new ≡ old

-- the entry of a text stands at this place, and has its old number or this one
pub record IsEntered {A : Type 0} (old new : List (String A × ℕ)) (text : List ℕ) (number place : ℕ) : Type 0 where
  pub within : place < length new
  pub text_is : text_of (slice_get new place) ≡ text
  pub entries : Entries old new text number (number_in old text)
