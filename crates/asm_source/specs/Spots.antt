-- Where a place in a file stands for its reader.
use Rattle.std.specs.Prelude.{◌==◌, ◌+◌, ◌<◌, ◌≤◌, ℕ, List, [], length, take, take_while, reverse, count_by, not, slice_get, option_map, unwrap_or}
use Rattle.asm_source.specs.declared.sources.Place.{Place}
use Rattle.asm_source.specs.declared.sources.Source.{Source}
use Rattle.asm_source.specs.declared.sources.Spot.{Spot}

-- the byte that ends a line
abbrev pub line_feed : ℕ
line_feed = 10

-- one more than the line feeds before the place
abbrev pub line_at : List ℕ → ℕ → ℕ
line_at text at = 1 + count_by (λ byte. byte == line_feed) (take at text)

-- one more than the bytes between the last line feed before the place, or the beginning, and the place
abbrev pub column_at : List ℕ → ℕ → ℕ
column_at text at = 1 + length (take_while (λ byte. not (byte == line_feed)) (reverse (take at text)))

abbrev pub spot_at : List ℕ → ℕ → Spot
spot_at text at = record { line = line_at text at; column = column_at text at }

-- the text of the file of this number
abbrev pub text_of : List Source → ℕ → List ℕ
text_of sources file = unwrap_or (option_map (λ source. source.text) (slice_get sources file)) []

-- the file is in the list, and the place is in its text or at its end
pub record IsPlace (sources : List Source) (place : Place) : Type 0 where
  pub listed : place.file < length sources
  pub within : place.at ≤ length (text_of sources place.file)

-- the line and the column of a place, both from 1
abbrev pub spot_of : List Source → Place → Spot
spot_of sources place = spot_at (text_of sources place.file) place.at
