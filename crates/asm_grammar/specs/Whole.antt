-- How a whole text is read.
use Rattle.std.specs.Prelude.{◌≡◌, ◌≢◌, ℕ, List, [], ◌∷◌, length, Result, Ok, Err}
use Rattle.asm_grammar.specs.declared.Stop.{Stop}
use Rattle.asm_grammar.specs.declared.Stop.TheVariants.{Memory, Syntax}
use Rattle.asm_grammar.specs.Grammar.{Language, Grammar, Bodies, read, reader}

abbrev pub ended : {T A : Type 0} → A → List T → Result A Stop
ended y [] = Ok y
ended y (t ∷ rest) = Err (Syntax (length (t ∷ rest)))

abbrev pub whole_of : {T A : Type 0} → Result (A × List T) Stop → Result A Stop
whole_of (Ok p) = ended p.0 p.1
whole_of (Err e) = Err e

unfoldable pub whole_at : (l : Language) (body : Bodies l) {A : Type 0} (whole : Grammar l A) → ℕ → List l.Token → Result A Stop
whole_at l body whole limit ts = whole_of (read l (reader l body limit) whole ts)

-- What a function that reads a whole text ensures: it gives what reading gives, unless memory ran out.
abbrev pub GivesWhole : {A : Type 0} → Result A Stop → Result A Stop → Type 0
GivesWhole (Ok y) o = o ≡ Ok y
GivesWhole (Err e) o = e ≢ Memory → o ≡ Err e
