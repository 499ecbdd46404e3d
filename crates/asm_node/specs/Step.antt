-- Initial states, steps, invariants and runs.
use Rattle.std.specs.Prelude.{◌≡◌, ℕ, suc, Bool as Truth, not, ◌||◌, ◌&&◌, IsTrue, IsSome, is_some, if◌then◌else◌, List, [], ◌∷◌, Option, Some, None, Result, Ok, Err, slice_get, ⊤}
use Rattle.std.specs.Option.{unwrap_or}
use Rattle.std.specs.List.{find}
use Rattle.std.specs.FinMap as finite
use Rattle.asm_domain.specs.declared.value.Value.{Value}
use Rattle.asm_domain.specs.declared.value.Value.TheVariants.{Undef}
use Rattle.asm_sign.specs.declared.function.Function.{Function}
use Rattle.asm_sign.specs.Kind.{is_kept}
use Rattle.asm_sign.specs.Vocabulary.{Vocabulary, locations, function_at}
use Rattle.asm_node.specs.declared.stop.Stop.{Stop}
use Rattle.asm_node.specs.declared.stop.Stop.TheVariants.{Clash, BadInitial}
use Rattle.asm_node.specs.Tree.{Tree}
use Rattle.asm_node.specs.RuleTree.{Rule}
use Rattle.asm_node.specs.Values.{is_element, is_undef, is_true}
use Rattle.asm_node.specs.Machine.{Machine, Definition, State, Input, revised, no_input, definition_of, is_shared, is_monitored, has_kind}
use Rattle.asm_node.specs.Term.{World, Outcome, Gives, Needs, value_of, calls_of, parameters_have, val, nowhere}
use Rattle.asm_node.specs.UpdateSet.{UpdateSet, consistent, clash, fire}
use Rattle.asm_node.specs.Taking.{Attempt, Yields, Faults, outcome, by_words, by_paths, Choosing}

-- a value of the codomain, or `undef`
abbrev pub may_have : Machine → Option Function → Value → Truth
may_have m (Some f) v = is_undef v || is_element m.signature.domains f.codomain v
may_have m None v = is_undef v

-- a state has a value for each kept slot and for no other, and each is `undef` or in the codomain
pub record IsState (m : Machine) (s : State) : Type 0 where
  pub has_kept : (l : ℕ) → is_some (finite.get s l) ≡ has_kind is_kept (function_at m.signature l)
  pub may_have_it : (l : ℕ) (v : Value) → finite.get s l ≡ Some v → IsTrue (may_have m (function_at m.signature l) v)

-- an input gives values of the codomains to monitored and shared locations alone
pub record IsInput (m : Machine) (i : Input) : Type 0 where
  pub is_asked : (l : ℕ) (v : Value) → finite.get i l ≡ Some v → IsTrue (has_kind is_monitored (function_at m.signature l) || has_kind is_shared (function_at m.signature l))
  pub may_give : (l : ℕ) (v : Value) → finite.get i l ≡ Some v → IsTrue (not (is_undef v) && may_have m (function_at m.signature l) v)

-- a full input gives a value to every monitored location
pub record IsFull (m : Machine) (i : Input) : Type 0 where
  pub is_input : IsInput m i
  pub gives : (l : ℕ) → IsTrue (has_kind is_monitored (function_at m.signature l)) → IsSome (finite.get i l)

-- what a slot has under an input: the input's value where the location is shared and the input gives one
abbrev pub shared_value : Vocabulary → Input → ℕ → Value → Value
shared_value signature i l v = if has_kind is_shared (function_at signature l) then unwrap_or (finite.get i l) v else v

-- the state with the input's shared values in place of its own
abbrev pub with_shared : Vocabulary → Input → State → State
with_shared signature i s = revised (shared_value signature i) s

-- the state with the input's shared values, and the input
abbrev pub world_at : Machine → State → Input → World
world_at m s i = record { machine = m; state = with_shared m.signature i s; input = i }

-- a model by itself
abbrev pub alone : Machine → World
alone m = record { machine = m; state = finite.empty; input = no_input }

-- an initial term reads no location, so it has a value
abbrev pub answer : Outcome Value → Value
answer (Gives v) = v
answer (Needs l) = Undef

-- the value of a location's initial term, and `undef` without one
abbrev pub initial_value : Machine → Option Definition → List Value → Value
initial_value m (Some d) vs = answer (value_of (alone m) (calls_of (alone m)) (parameters_have d.parameters vs) d.body)
initial_value m None vs = Undef

-- the initial values of the kept locations in order, each with its slot, from slot l on
abbrev pub initial_from : Machine → ℕ → List (ℕ × List Value) → List (ℕ × Value)
initial_from m l [] = []
initial_from m l (location ∷ others) =
    if has_kind is_kept (slice_get m.signature.functions location.0)
    then (l, initial_value m (definition_of m.initial_terms location.0) location.1) ∷ initial_from m (suc l) others
    else initial_from m (suc l) others

-- the initial values of all kept locations
abbrev pub initial_values : Machine → List (ℕ × Value)
initial_values m = initial_from m 0 (locations m.signature)

abbrev pub started : State → Option (ℕ × Value) → Result State Stop
started s None = Ok s
started s (Some bad) = Err (BadInitial bad.0 bad.1)

-- the initial state: each kept location has the value of its initial term; the first value that is neither `undef` nor
-- in the codomain is the stop
abbrev pub initial : Machine → Result State Stop
initial m = started (finite.from_entries (initial_values m)) (find (λ e. not (may_have m (function_at m.signature e.0) e.1)) (initial_values m))

-- the state after a set is fired, or the stop of its clash
abbrev pub after : World → UpdateSet → List ℕ → Option (ℕ × Value × Value) → Result (State × List ℕ) Stop
after w u words None = Ok (fire w.state u, words)
after w u words (Some c) = Err (Clash c.0 c.1 c.2)

abbrev pub ended : World → Attempt (List ℕ) UpdateSet → Result (State × List ℕ) Stop
ended w (Yields u words) = after w u words (clash w.machine.signature u)
ended w (Faults stop words) = Err stop

-- a step of a rule from a state under an input and choice words: the next state and the words that are left, or the stop
abbrev pub next : Machine → State → Input → List ℕ → Rule → Result (State × List ℕ) Stop
next m s i words rule = ended (world_at m s i) (outcome by_words (world_at m s i) rule words)

-- a step of the main rule under some choices: the rule gives a consistent set, which is fired
pub record Steps (m : Machine) (s : State) (i : Input) (t : State) : Type 0 where
  pub choosing : Choosing
  pub updates : UpdateSet
  pub gives : outcome (by_paths choosing) (world_at m s i) m.main tt ≡ Yields updates tt
  pub is_consistent : IsTrue (consistent updates)
  pub next_is : fire (world_at m s i).state updates ≡ t

-- an invariant holds in a state where its value is true; it reads no monitored location
abbrev pub holds : Machine → State → Tree → Truth
holds m s t = is_true (answer (val (record { machine = m; state = s; input = no_input }) nowhere t))

-- the number of the first invariant that does not hold, counted from n
abbrev pub first_false : Machine → State → ℕ → List Tree → Option ℕ
first_false m s n [] = None
first_false m s n (t ∷ ts) = if holds m s t then first_false m s (suc n) ts else Some n

-- the number of the first invariant that does not hold in the state, counted from 1
abbrev pub broken : Machine → State → Option ℕ
broken m s = first_false m s 1 m.invariants

-- the states after one, each a step of the one before under the full input at its place, with all invariants
abbrev pub Follow : Machine → State → List Input → List State → Type 0
Follow m s [] [] = ⊤
Follow m s (i ∷ inputs) (t ∷ states) = IsFull m i × Steps m s i t × (broken m t ≡ None) × Follow m t inputs states
Follow m s _ _ = ⊥

-- a run: the initial state, and the states after it, with all invariants
abbrev pub IsRun : Machine → List Input → List State → Type 0
IsRun m inputs [] = ⊥
IsRun m inputs (s ∷ states) = (initial m ≡ Ok s) × (broken m s ≡ None) × Follow m s inputs states
