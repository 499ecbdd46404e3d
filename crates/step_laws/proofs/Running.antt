-- The states of a run, and steps under named choices.
use Rattle.std.proofs.Common.{◌≡◌, zero, suc, List, [], ◌∷◌, ap, sym, ◌∙◌, subst, arith, All}
use Rattle.asm_node.specs.Machine.{Machine, State, Input}
use Rattle.asm_node.specs.Taking.{Attempt, Yields, Faults, Choosing, outcome, by_paths}
use Rattle.asm_node.specs.UpdateSet.{UpdateSet, fire}
use Rattle.asm_node.specs.Step.{IsState, Follow, IsRun, world_at}
use Rattle.asm_node.specs.WellFormed.{IsWellFormed}
use Rattle.step_laws.specs.Stepping.{Leads}
use Rattle.step_laws.proofs.Started.{initial_is_state}
use Rattle.step_laws.proofs.Stepping.{steps_stay_states}

all_more : {A : Type 0} (P : A → Type 0) (x : A) (xs : List A) → P x → All P xs → All P (x ∷ xs)
all_more P x xs p all zero d lt = p
all_more P x xs p all (suc k) d lt = all k d (omega (arith, lt))

following : (m : Machine) → IsWellFormed m → (s : State) (inputs : List Input) (states : List State) → IsState m s → Follow m s inputs states → All (IsState m) states
following m formed s [] [] state h = λ k d lt. absurd (omega (arith, lt))
following m formed s [] (t ∷ states) state h = absurd h
following m formed s (i ∷ inputs) [] state h = absurd h
following m formed s (i ∷ inputs) (t ∷ states) state h =
    (let next = steps_stay_states m formed s i t state h.0.is_input h.1 in all_more (IsState m) t states next (following m formed t inputs states next h.3))

-- the states of a run are states
pub run_states : (m : Machine) → IsWellFormed m → (inputs : List Input) (states : List State) → IsRun m inputs states → All (IsState m) states
run_states m formed inputs [] h = absurd h
run_states m formed inputs (s ∷ states) h =
    (let first = initial_is_state m s h.0 in all_more (IsState m) s states first (following m formed s inputs states first h.2))

module _ (m : Machine) (s : State) (i : Input) (c : Choosing) where
  gives_by : (t : State) (p : Leads m s i c t) → outcome (by_paths c) (world_at m s i) m.main tt ≡ Yields p.steps.updates tt
  gives_by t p = subst (λ (d : Choosing). outcome (by_paths d) (world_at m s i) m.main tt ≡ Yields p.steps.updates tt) p.by_choices p.steps.gives

  abbrev set_or : UpdateSet → Attempt (Unit {0}) UpdateSet → UpdateSet
  set_or u (Yields v t) = v
  set_or u (Faults e t) = u

  -- a step under named choices leads to one state
  pub leads_once : (t u : State) → Leads m s i c t → Leads m s i c u → t ≡ u
  leads_once t u p q =
      sym p.steps.next_is ∙ (ap (λ (o : Attempt (Unit {0}) UpdateSet). fire (world_at m s i).state (set_or p.steps.updates o)) (sym (gives_by t p) ∙ gives_by u q) ∙ q.steps.next_is)
