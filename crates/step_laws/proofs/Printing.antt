-- A run that is printed to its end is a run of the model, and each run of the model is printed under some words.
use Rattle.std.proofs.Common.{◌≡◌, ℕ, zero, suc, ◌+◌, List, [], ◌∷◌, ◌++◌, length, Option, Some, None, All, refl, ap, ◌∙◌, arith}
use Rattle.std.specs.Prelude.{Result, Ok, Err}
use Rattle.asm_source.specs.declared.sources.Source.{Source}
use Rattle.asm_node.specs.declared.stop.Stop.{Stop}
use Rattle.asm_node.specs.Machine.{Machine, State, Input, no_input}
use Rattle.asm_node.specs.Step.{IsState, IsFull, IsRun, Steps, Follow, broken, initial, next}
use Rattle.asm_node.specs.WellFormed.{IsWellFormed}
use Rattle.asm_run.specs.declared.run.RunEnd.TheVariants.{Done}
use Rattle.asm_run.specs.Printed.{Printed, after, begun, ended, first_input, further_inputs, go_on, numbered_state, run_from, run_of, unless_broken}
use Rattle.step_laws.specs.Runs.{ShowsRun, inputs_of, printed_states}
use Rattle.step_laws.proofs.Started.{initial_is_state}
use Rattle.step_laws.proofs.Stepping.{choices_of, steps_stay_states, words_before}

-- what is printed from a state on are the states that follow it
record Shows (m : Machine) (inputs : List Input) (number : ℕ) (s : State) (p : Printed) : Type 0 where
  states : List State
  unbroken : broken m s ≡ None
  follow : Follow m s inputs states
  is_shown : p ≡ printed_states m number (s ∷ states)

module _ (m : Machine) (sources : List Source) (formed : IsWellFormed m) where
  -- what is printed from a state on, by whether an invariant is false there and by its step
  abbrev from : ℕ → State → Option ℕ → Printed → Printed
  from number s o p = after (numbered_state m number s) (unless_broken m sources o p)

  shows_last : (number : ℕ) (s : State) (o : Option ℕ) → broken m s ≡ o → (unless_broken m sources o ended).end ≡ Done → Shows m [] number s (from number s (broken m s) ended)
  shows_last number s None none done = record { states = []; unbroken = none; follow = tt; is_shown = ap (λ (o : Option ℕ). from number s o ended) none }
  shows_last number s (Some n) some done = absurd (cc done)

  abbrev later : ℕ → List Input → ℕ → State → List ℕ → Printed
  later number inputs steps t rest = run_from m sources (number + 1) t (further_inputs inputs) rest steps

  -- what is printed from a state on by a run of this many steps
  abbrev ShowsAt : ℕ → Type 0
  ShowsAt steps = (number : ℕ) (s : State) (inputs : List Input) (words : List ℕ) → IsState m s → All (IsFull m) (inputs_of inputs steps) → (run_from m sources number s inputs words steps).end ≡ Done
      → Shows m (inputs_of inputs steps) number s (run_from m sources number s inputs words steps)

  -- a step and what is printed after it
  shows_more : (steps : ℕ) → ShowsAt steps → (number : ℕ) (s : State) (inputs : List Input) (words : List ℕ) → IsState m s → All (IsFull m) (inputs_of inputs (suc steps)) → broken m s ≡ None
      → (r : Result (State × List ℕ) Stop) → next m s (first_input inputs) words m.main ≡ r → (go_on m sources r (later number inputs steps)).end ≡ Done
      → Shows m (inputs_of inputs (suc steps)) number s (from number s (broken m s) (go_on m sources (next m s (first_input inputs) words m.main) (later number inputs steps)))
  shows_more steps more number s inputs words state full none (Ok p) is done =
      let i : Input = first_input inputs in
      let first_full : IsFull m i = full 0 no_input (omega arith) in
      let step : Steps m s i p.0 = choices_of m s i p.0 words p.1 formed first_full.is_input state is in
      let r : Shows m (inputs_of (further_inputs inputs) steps) (number + 1) p.0 (later number inputs steps p.0 p.1) =
      more (number + 1) p.0 (further_inputs inputs) p.1 (steps_stay_states m formed s i p.0 state first_full.is_input step) (λ k d lt. full (suc k) d (omega (arith, lt))) done in
      record {
        states = p.0 ∷ r.states;
        unbroken = none;
        follow = (first_full, step, r.unbroken, r.follow);
        is_shown = (λ j. from number s (none j) (go_on m sources (is j) (later number inputs steps))) ∙ ap (after (numbered_state m number s)) r.is_shown;
      }
  shows_more steps more number s inputs words state full none (Err e) is done = absurd (cc done)

  shows_next : (steps : ℕ) → ShowsAt steps → (number : ℕ) (s : State) (inputs : List Input) (words : List ℕ) → IsState m s → All (IsFull m) (inputs_of inputs (suc steps)) → (o : Option ℕ) → broken m s ≡ o
      → (unless_broken m sources o (go_on m sources (next m s (first_input inputs) words m.main) (later number inputs steps))).end ≡ Done
      → Shows m (inputs_of inputs (suc steps)) number s (from number s (broken m s) (go_on m sources (next m s (first_input inputs) words m.main) (later number inputs steps)))
  shows_next steps more number s inputs words state full None none done = shows_more steps more number s inputs words state full none (next m s (first_input inputs) words m.main) refl done
  shows_next steps more number s inputs words state full (Some n) some done = absurd (cc done)

  shows_from : (steps : ℕ) → ShowsAt steps
  shows_from zero number s inputs words state full done = shows_last number s (broken m s) refl done
  shows_from (suc steps) number s inputs words state full done = shows_next steps (shows_from steps) number s inputs words state full (broken m s) refl done

  -- a run of so many steps that is printed to its end, each step under a full input
  pub shows_run : (inputs : List Input) (words : List ℕ) (steps : ℕ) → All (IsFull m) (inputs_of inputs steps) → (run_of m sources inputs words steps).end ≡ Done → ShowsRun m (inputs_of inputs steps) (run_of m sources inputs words steps)
  shows_run inputs words steps full done = go (initial m) refl done
    where
      printed : State → Printed
      printed s = run_from m sources 0 s inputs words steps

      go : (r : Result State Stop) → initial m ≡ r → (begun m sources r printed).end ≡ Done → ShowsRun m (inputs_of inputs steps) (begun m sources (initial m) printed)
      go (Ok s) is done =
          let r : Shows m (inputs_of inputs steps) 0 s (printed s) = shows_from steps 0 s inputs words (initial_is_state m s is) full done in
          record { states = s ∷ r.states; is_run = (is, r.unbroken, r.follow); is_shown = ap (λ (r : Result State Stop). begun m sources r printed) is ∙ r.is_shown }
      go (Err e) is done = absurd (cc done)

  -- the words of the steps after one another
  words_from : (inputs : List Input) (states : List State) (number : ℕ) (s : State) → broken m s ≡ None → Follow m s inputs states
      → (words : List ℕ) × (run_from m sources number s inputs words (length inputs) ≡ printed_states m number (s ∷ states))
  words_from [] [] number s none follow = ([], ap (λ (o : Option ℕ). from number s o ended) none)
  words_from [] (t ∷ states) number s none follow = absurd follow
  words_from (i ∷ inputs) [] number s none follow = absurd follow
  words_from (i ∷ inputs) (t ∷ states) number s none follow =
      let first = words_before m s i t formed follow.1 in
      let others = words_from inputs states (number + 1) t follow.2 follow.3 in (
        first.0 ++ others.0,
        (λ j. from number s (none j) (go_on m sources (first.1 others.0 j) (later number (i ∷ inputs) (length inputs)))) ∙ ap (after (numbered_state m number s)) others.1,
      )

  pub words_for_run : (inputs : List Input) (states : List State) → IsRun m inputs states → (words : List ℕ) × (run_of m sources inputs words (length inputs) ≡ printed_states m 0 states)
  words_for_run inputs [] run = absurd run
  words_for_run inputs (s ∷ states) run =
      let r = words_from inputs states 0 s run.1 run.2 in
      (r.0, ap (λ (o : Result State Stop). begun m sources o (λ s. run_from m sources 0 s inputs r.0 (length inputs))) run.0 ∙ r.1)
