-- What is left of a state once an update set is put in.
use Rattle.std.specs.Prelude.{◌≡◌, ℕ, ◌<◌, true, List, [], ◌∷◌, length, slice_index_or, IsSome}
use Rattle.std.specs.FinMap.{get, insert}
use Rattle.asm_state.specs.State.{State}
use Rattle.asm_node.specs.UpdateSet.{Pair, UpdateSet, touches}

-- each slot of the set is one of the state's
abbrev pub IsOfSlots : UpdateSet → State → Type 0
IsOfSlots u s = (slot : ℕ) → touches u slot ≡ true → IsSome (get s slot)

-- the state after the pairs are put in, one after the other
abbrev pub put_in : State → List Pair → State
put_in s [] = s
put_in s (p ∷ ps) = put_in (insert s p.0 p.1) ps

-- the slot of each pair is one of the state's
abbrev pub HaveSlots : List Pair → State → Type 0
HaveSlots ps s = (k : ℕ) (d : Pair) → k < length ps → IsSome (get s (slice_index_or ps k d).0)
