-- Choice words, of which some are taken.
use Rattle.std.specs.Prelude.{ℕ, List, drop}

-- the words that are left
abbrev pub left : List ℕ × ℕ → List ℕ
left words = drop words.1 words.0
