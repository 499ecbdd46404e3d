-- Documents: tokens with the blanks between them.
use Rattle.std.specs.Prelude.{ℕ, ◌*◌, List, [], ◌∷◌, ◌++◌, Bool, true, false, codes, replicate}

pub data Item : Type 0 where
  -- one space
  Gap : Item
  -- a line feed, and two spaces for each level
  Line : ℕ → Item
  -- a token with these bytes
  One : List ℕ → Item

abbrev pub item_text : Item → List ℕ
item_text Gap = codes " "
item_text (Line n) = codes "\n" ++ replicate (2 * n) 32
item_text (One w) = w

abbrev pub text_in : List Item → List ℕ
text_in [] = []
text_in (i ∷ d) = item_text i ++ text_in d

-- what stands at each level: for a term the level of the operators that need no parentheses there, for a rule the level of its lines
abbrev pub Doc : Type 0
Doc = ℕ → List Item

-- one token
abbrev pub word : List ℕ → List Item
word w = One w ∷ []

-- one space between them
abbrev pub spaced : List (List Item) → List Item
spaced [] = []
spaced (d ∷ []) = d
spaced (d ∷ e ∷ es) = d ++ (Gap ∷ spaced (e ∷ es))

-- one space before each
abbrev pub behind_gaps : List (List Item) → List Item
behind_gaps [] = []
behind_gaps (d ∷ ds) = Gap ∷ (d ++ behind_gaps ds)

-- this token before each, and one space behind it
abbrev pub further : List ℕ → List (List Item) → List Item
further w [] = []
further w (d ∷ ds) = One w ∷ Gap ∷ (d ++ further w ds)

-- this token between them, and one space behind it
abbrev pub separated : List ℕ → List (List Item) → List Item
separated w [] = []
separated w (d ∷ ds) = d ++ further w ds

abbrev pub commas : List (List Item) → List Item
commas = separated (codes ",")

-- between a token that opens and one that closes
abbrev pub between : List ℕ → List Item → List ℕ → List Item
between left d right = One left ∷ (d ++ word right)

abbrev pub parenthesized : List Item → List Item
parenthesized d = between (codes "(") d (codes ")")

abbrev pub parenthesized_if : Bool → List Item → List Item
parenthesized_if true d = parenthesized d
parenthesized_if false d = d

-- in parentheses with commas, or nothing where there are none
abbrev pub arguments : List (List Item) → List Item
arguments [] = []
arguments (d ∷ ds) = parenthesized (commas (d ∷ ds))

-- each on a line of its own, at a level
abbrev pub lines : ℕ → List (List Item) → List Item
lines n [] = []
lines n (d ∷ ds) = Line n ∷ (d ++ lines n ds)
