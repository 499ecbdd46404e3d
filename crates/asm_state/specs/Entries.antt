-- A state by its entries.
use Rattle.std.specs.Prelude.{ℕ, suc, List, [], ◌∷◌, Option, Some, None}
use Rattle.std.specs.FinMap.{from_entries}
use Rattle.asm_domain.specs.declared.value.Value.{Value}
use Rattle.asm_state.specs.State.{State}

-- the filled entries with their slots, from a slot on
abbrev pub filled_from : ℕ → List (Option Value) → List (ℕ × Value)
filled_from slot [] = []
filled_from slot (None ∷ entries) = filled_from (suc slot) entries
filled_from slot (Some value ∷ entries) = (slot, value) ∷ filled_from (suc slot) entries

-- the state that has the entries at the slots from 0 on
abbrev pub held : List (Option Value) → State
held entries = from_entries (filled_from 0 entries)
