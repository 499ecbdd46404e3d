-- Sessions: a state of a model, and what a step does to it.
use Rattle.std.specs.Prelude.{◌≡◌, ◌⊎◌, ℕ, List, Option, Some, None, Result, Ok, Err}
use Rattle.asm_node.specs.declared.stop.Stop.{Stop}
use Rattle.asm_node.specs.declared.stop.Stop.TheVariants as stop
use Rattle.asm_node.specs.Machine.{Machine, State}
use Rattle.asm_node.specs.Step.{broken}
use Rattle.asm_node.specs.Words.{left}
use Rattle.asm_run.specs.declared.error.StepError.{StepError}
use Rattle.asm_run.specs.declared.error.StepError.TheVariants.{Stop as Stops, Memory}

-- what a session shows: the machine, the present state, and the number of the first invariant that is false there
pub record Shown : Type 0 where
  pub machine : Machine
  pub state : State
  pub stopped : Option ℕ

-- what a step comes to: the next state, the number of the first invariant that is false there, and the words that are left; or a stop
pub data Outcome : Type 0 where
  Moves : (state : State) (stopped : Option ℕ) (words : List ℕ) → Outcome
  Stands : (stop : Stop) → Outcome

abbrev pub moved : Machine → Result (State × List ℕ) Stop → Outcome
moved m (Ok p) = Moves p.0 (broken m p.0) p.1
moved m (Err e) = Stands e

-- a session that is stopped by an invariant makes no step
abbrev pub unless_stopped : Option ℕ → Outcome → Outcome
unless_stopped (Some n) o = Stands (stop.Invariant n)
unless_stopped None o = o

-- what a step comes to in a session
abbrev pub advanced : Shown → Result (State × List ℕ) Stop → Outcome
advanced s next = unless_stopped s.stopped (moved s.machine next)

-- the session and the words are as before
pub record Stays (old new : Shown) (before after : List ℕ × ℕ) : Type 0 where
  pub session : new ≡ old
  pub words : after ≡ before

-- the step comes to the session's new state, and to the words that are left
pub record HasMoved (o : Outcome) (stopped : Option ℕ) (old new : Shown) (before after : List ℕ × ℕ) : Type 0 where
  pub comes_to : o ≡ Moves new.state stopped (left after)
  pub machine : new.machine ≡ old.machine
  pub stopped_is : new.stopped ≡ stopped
  pub same_words : after.0 ≡ before.0

-- the step comes to the stop, and all is as before
pub record HasStood (o : Outcome) (e : Stop) (old new : Shown) (before after : List ℕ × ℕ) : Type 0 where
  pub comes_to : o ≡ Stands e
  pub stays : Stays old new before after

-- a false invariant stops a session in its new state; after every other stop all is as before
abbrev pub Stopped : Outcome → Stop → Shown → Shown → List ℕ × ℕ → List ℕ × ℕ → Type 0
Stopped o (stop.Invariant n) old new before after = HasMoved o (Some n) old new before after ⊎ HasStood o (stop.Invariant n) old new before after
Stopped o (stop.Clash slot x y) old new before after = HasStood o (stop.Clash slot x y) old new before after
Stopped o (stop.Input slot) old new before after = HasStood o (stop.Input slot) old new before after
Stopped o (stop.Choice place) old new before after = HasStood o (stop.Choice place) old new before after
Stopped o (stop.UndefGuard place) old new before after = HasStood o (stop.UndefGuard place) old new before after
Stopped o (stop.BadArgument place) old new before after = HasStood o (stop.BadArgument place) old new before after
Stopped o (stop.BadValue place slot x) old new before after = HasStood o (stop.BadValue place slot x) old new before after
Stopped o (stop.BadInitial slot x) old new before after = HasStood o (stop.BadInitial slot x) old new before after

abbrev pub Fails : Outcome → StepError → Shown → Shown → List ℕ × ℕ → List ℕ × ℕ → Type 0
Fails o (Stops e) old new before after = Stopped o e old new before after
Fails o Memory old new before after = Stays old new before after

-- what a step answers, and what it leaves
abbrev pub Answers : Outcome → Result (Unit {0}) StepError → Shown → Shown → List ℕ × ℕ → List ℕ × ℕ → Type 0
Answers o (Ok u) old new before after = HasMoved o None old new before after
Answers o (Err e) old new before after = Fails o e old new before after

-- a stopped session answers its invariant's number
abbrev pub SaysStopped : Option ℕ → Result (Unit {0}) StepError → Type 0
SaysStopped (Some n) result = result ≡ Err (Stops (stop.Invariant n))
SaysStopped None result = Unit {0}
