-- The two least values of a slot, and where a set may be put in.
use Rattle.std.specs.Prelude.{◌≡◌, ℕ, ◌<◌, true, List, ◌∷◌, length, Option, Some, None, Contains}
use Rattle.std.specs.FinSet.{contains}
use Rattle.asm_domain.specs.declared.value.Value.{Value}
use Rattle.asm_sign.specs.Vocabulary.{Vocabulary, locations, function_at}
use Rattle.asm_node.specs.UpdateSet.{UpdateSet, ranked_values}

-- the first two values of a list, where it has two
abbrev pub first_pair : List Value → Option (Value × Value)
first_pair (v ∷ w ∷ _) = Some (v, w)
first_pair _ = None

-- each pair of a set is of a location of the vocabulary, and its value is one that the location may have
abbrev pub HaveLocations : Vocabulary → UpdateSet → Type 0
HaveLocations signature u = (l : ℕ) (v : Value) → contains u (l, v) ≡ true → (l < length (locations signature)) × Contains (ranked_values signature (function_at signature l)) v

-- a set has no two values at a slot
abbrev pub HasAtMostOne : UpdateSet → ℕ → Type 0
HasAtMostOne u l = (v w : Value) → contains u (l, v) ≡ true → contains u (l, w) ≡ true → v ≡ w
