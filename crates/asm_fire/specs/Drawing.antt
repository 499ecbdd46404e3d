-- The words that a rule draws for choices at paths.
use Rattle.std.specs.Prelude.{◌≡◌, ℕ, suc, List, [], ◌∷◌, ◌++◌, Option, Some, None, Result, Ok, Err, slice_index_or, if◌then◌else◌}
use Rattle.std.specs.Option.{option_map}
use Rattle.std.specs.FinMap as finite
use Rattle.asm_source.specs.declared.sources.Place.{Place}
use Rattle.asm_domain.specs.declared.value.Value.{Value}
use Rattle.asm_laws.specs.Choosing.{by_small_words}
use Rattle.asm_node.specs.declared.path.Step.{Step}
use Rattle.asm_node.specs.declared.stop.Stop.TheVariants.{Choice}
use Rattle.asm_node.specs.Choices.{Chosen}
use Rattle.asm_node.specs.RuleTree.{Rule}
use Rattle.asm_node.specs.Taking.{Attempt, Yields, Faults, Path, Pick, Choosing, outcome, by_paths}
use Rattle.asm_node.specs.Term.{World}
use Rattle.asm_node.specs.UpdateSet.{UpdateSet}
use Rattle.asm_node.specs.Values.{same_all}
use Rattle.asm_fire.specs.declared.error.FireError.{FireError}
use Rattle.asm_fire.specs.Answer.{Halts}

-- what a map from paths to tuples chooses
abbrev pub choosing_of : Chosen → Choosing
choosing_of chosen path = finite.get chosen path

-- the first place of a tuple in a list
abbrev pub place_among : List Value → List (List Value) → Option ℕ
place_among tuple [] = None
place_among tuple (t ∷ ts) = if same_all tuple t then Some 0 else option_map suc (place_among tuple ts)

-- the candidate at a place, whose number is put after the words so far
abbrev pub noted : Place → List (List Value) → Option ℕ → List ℕ → Attempt (List ℕ) (List Value)
noted place found (Some k) words = Yields (slice_index_or found k []) (words ++ k ∷ [])
noted place found None words = Faults (Choice place) words

abbrev pub drawn : Place → List (List Value) → Option (List Value) → List ℕ → Attempt (List ℕ) (List Value)
drawn place found (Some tuple) words = noted place found (place_among tuple found) words
drawn place found None words = Faults (Choice place) words

-- by paths: each choice is made at its path, and draws a word, the number of the chosen one among its candidates
abbrev pub by_drawing : Choosing → Pick (List ℕ)
by_drawing choosing path place found words = drawn place found (choosing path) words

-- the rule gives some set under the choices
abbrev pub GivesUnder : World → Rule → Choosing → Type 0
GivesUnder w rule choosing = (u : UpdateSet) × (outcome (by_paths choosing) w rule tt ≡ Yields u tt)

-- the rule gives a set under the choices and draws these words for them
abbrev pub DrawnBy : World → Rule → Choosing → List ℕ → Type 0
DrawnBy w rule choosing words = (u : UpdateSet) × (outcome (by_paths choosing) w rule tt ≡ Yields u tt) × (outcome (by_drawing choosing) w rule [] ≡ Yields u words)

-- what the rule gives under the choices it also gives under these words, each below the number of its candidates, and none
-- of them is left
abbrev pub DrawsFor : World → Rule → Choosing → List ℕ → Type 0
DrawsFor w rule choosing words = (u : UpdateSet) → outcome (by_paths choosing) w rule tt ≡ Yields u tt → outcome by_small_words w rule words ≡ Yields u []

-- the number of the chosen one, by which it is noted; or the fault
abbrev pub Numbers : Result ℕ FireError → Place → List (List Value) → Option (List Value) → List ℕ → Type 0
Numbers (Ok k) place found choice words = drawn place found choice words ≡ noted place found (Some k) words
Numbers (Err e) place found choice words = Halts e words (drawn place found choice words)

-- a path without its last step
abbrev pub IsShorter : Path → Path → Type 0
IsShorter before after = (path : Path) (step : Step) → path ++ step ∷ [] ≡ before → path ≡ after
