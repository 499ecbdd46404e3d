-- The state in which a run begins.
use Rattle.std.specs.Prelude.{◌≡◌, ℕ, ⊤, List, Option, Some, None, Result, Ok, Err, slice_get, if◌then◌else◌}
use Rattle.std.specs.FinMap.{insert}
use Rattle.asm_domain.specs.declared.value.Value.{Value}
use Rattle.asm_sign.specs.Vocabulary.{locations, function_at}
use Rattle.asm_node.specs.declared.stop.Stop.{Stop}
use Rattle.asm_node.specs.declared.stop.Stop.TheVariants as stop
use Rattle.asm_node.specs.Machine.{Machine, State, definition_of, has_kind}
use Rattle.asm_sign.specs.Kind.{is_kept}
use Rattle.asm_node.specs.Exact.{exact_within, IsExactBody}
use Rattle.asm_node.specs.Term.{calls_of}
use Rattle.asm_node.specs.Step.{alone, initial_value, may_have}
use Rattle.asm_eval.specs.declared.error.InitError.{InitError}
use Rattle.asm_eval.specs.declared.error.InitError.TheVariants.{BadInitial, Memory}

-- the location and the value are those of the stop; want of memory says nothing
abbrev pub Prevents : InitError → Result State Stop → Type 0
Prevents (BadInitial l v) o = o ≡ Err (stop.BadInitial l v)
Prevents Memory o = ⊤

-- the state is the one defined, or the error prevents it
abbrev pub Begins : {A : Type 0} → (A → State) → Result A InitError → Result State Stop → Type 0
Begins view (Ok a) o = o ≡ Ok (view a)
Begins view (Err e) o = Prevents e o

-- every number that the evaluation of an initial term meets is at most 2^62 in absolute value, at the arguments of each
-- location of its function
abbrev pub AreInitialsExact : Machine → Type 0
AreInitialsExact m = (slot : ℕ) (location : ℕ × List Value) → slice_get (locations m.signature) slot ≡ Some location → IsExactBody (alone m) (calls_of (alone m)) (exact_within (alone m) 32) (definition_of m.initial_terms location.0) location.1

-- the initial value of a location
abbrev pub value_at : Machine → ℕ × List Value → Value
value_at m location = initial_value m (definition_of m.initial_terms location.0) location.1

-- the state with one more initial value, at this slot, or the stop of a value that the slot may not have
abbrev pub put_checked : Machine → State → ℕ → Value → Result State Stop
put_checked m s l v = if may_have m (function_at m.signature l) v then Ok (insert s l v) else Err (stop.BadInitial l v)

-- the state with the initial value of one more location, at this slot, where a state keeps it
abbrev pub started_at : Machine → State → ℕ → Option (ℕ × List Value) → Result State Stop
started_at m s l (Some location) = if has_kind is_kept (slice_get m.signature.functions location.0) then put_checked m s l (value_at m location) else Ok s
started_at m s l None = Ok s
