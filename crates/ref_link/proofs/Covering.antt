-- Where each allowed step is answered, a run of the abstract model is built beside each run of the concrete model.
use Rattle.std.proofs.Common.{◌≡◌, inl, inr, ℕ, zero, suc, true, List, [], ◌∷◌, Option, Some, None, unwrap_or, slice_get, refl, ap, sym, ◌∙◌, subst}
use Rattle.std.specs.Prelude.{Result, Ok, Err}
use Rattle.asm_node.specs.declared.stop.Stop.{Stop}
use Rattle.asm_node.specs.Machine.{State, Input}
use Rattle.asm_node.specs.Step.{IsState, Follow, initial}
use Rattle.ref_link.specs.Linking.{Linking, conform, agree}
use Rattle.ref_link.specs.Answering.{StepsStay, Begins, Holds, AnsweredByStep, EachAnswered}
use Rattle.ref_link.specs.Refining.{ConformsAt, Moves, Answers, Refines}

-- the places where the first step is answered by no move, and by a move
abbrev after_stay : (ℕ → ℕ) → ℕ → ℕ
after_stay place zero = 0
after_stay place (suc t) = place t

abbrev after_move : (ℕ → ℕ) → ℕ → ℕ
after_move place zero = 0
after_move place (suc t) = suc (place t)

abbrev IsNothing : {A : Type 0} → Option A → Type 0
IsNothing None = Unit {0}
IsNothing (Some x) = ⊥

abbrev state_of : State → Result State Stop → State
state_of s (Ok t) = t
state_of s (Err e) = s

module _ (p : Linking) (a_stays : StepsStay p.abstract_model) (c_stays : StepsStay p.concrete_model) (each : EachAnswered p) where
  -- the rest of an abstract run beside the rest of a concrete run
  record Beside (sa sc : State) (inputs : List Input) (states : List State) : Type 0 where
    abstract_inputs : List Input
    abstract_states : List State
    follow : Follow p.abstract_model sa abstract_inputs abstract_states
    answers : Answers p inputs (sc ∷ states) abstract_inputs (sa ∷ abstract_states)

  some_is : {A : Type 0} (x y : A) → Some x ≡ Some y → x ≡ y
  some_is x y is = ap (λ (o : Option _). unwrap_or o x) is

  none_some : {A : Type 0} (x : A) → ◌≡◌ {A = Option A} None (Some x) → ⊥
  none_some x is = subst IsNothing is tt

  at_first : (sa sc s : State) (states : List State) → conform p sa sc ≡ true → Some sc ≡ Some s → ConformsAt p (sa ∷ states) 0 s
  at_first sa sc s states conforms is = record { state = sa; is_state = refl; conforms = subst (λ (r : State). conform p sa r ≡ true) (some_is sc s is) conforms }

  one_later : (states : List State) (sa sc : State) (k : ℕ) → ConformsAt p states k sc → ConformsAt p (sa ∷ states) (suc k) sc
  one_later states sa sc k at = record { state = at.state; is_state = at.is_state; conforms = at.conforms }

  -- no step is left
  alone : (sa sc : State) → conform p sa sc ≡ true → Beside sa sc [] []
  alone sa sc conforms = record {
    abstract_inputs = [];
    abstract_states = [];
    follow = tt;
    answers = record {
      place = λ t. 0;
      first = refl;
      last = refl;
      conforms = at;
      moves = λ t i is. inl refl;
    };
  }
    where
      at : (t : ℕ) (s : State) → slice_get (sc ∷ []) t ≡ Some s → ConformsAt p (sa ∷ []) 0 s
      at zero s is = at_first sa sc s [] conforms is
      at (suc t) s is = absurd (none_some s is)

  -- the first step is answered by the abstract state itself
  stay : (sa sc t : State) (i : Input) (inputs : List Input) (states : List State) → conform p sa sc ≡ true → Beside sa t inputs states → Beside sa sc (i ∷ inputs) (t ∷ states)
  stay sa sc t i inputs states conforms b = record {
    abstract_inputs = b.abstract_inputs;
    abstract_states = b.abstract_states;
    follow = b.follow;
    answers = record {
      place = after_stay b.answers.place;
      first = refl;
      last = b.answers.last;
      conforms = at;
      moves = goes;
    };
  }
    where
      at : (k : ℕ) (s : State) → slice_get (sc ∷ t ∷ states) k ≡ Some s → ConformsAt p (sa ∷ b.abstract_states) (after_stay b.answers.place k) s
      at zero s is = at_first sa sc s b.abstract_states conforms is
      at (suc k) s is = b.answers.conforms k s is

      goes : (k : ℕ) (j : Input) → slice_get (i ∷ inputs) k ≡ Some j → Moves p b.abstract_inputs (after_stay b.answers.place k) (after_stay b.answers.place (suc k)) j
      goes zero j is = inl b.answers.first
      goes (suc k) j is = b.answers.moves k j is

  -- the first step is answered by an abstract step
  move : (sa sc t : State) (i : Input) (inputs : List Input) (states : List State) → conform p sa sc ≡ true → (step : AnsweredByStep p sa i t) → Beside step.state t inputs states
      → Beside sa sc (i ∷ inputs) (t ∷ states)
  move sa sc t i inputs states conforms step b = record {
    abstract_inputs = step.input ∷ b.abstract_inputs;
    abstract_states = step.state ∷ b.abstract_states;
    follow = (step.is_full, step.steps, step.holds, b.follow);
    answers = record {
      place = after_move b.answers.place;
      first = refl;
      last = ap suc b.answers.last;
      conforms = at;
      moves = goes;
    };
  }
    where
      at : (k : ℕ) (s : State) → slice_get (sc ∷ t ∷ states) k ≡ Some s → ConformsAt p (sa ∷ step.state ∷ b.abstract_states) (after_move b.answers.place k) s
      at zero s is = at_first sa sc s (step.state ∷ b.abstract_states) conforms is
      at (suc k) s is = one_later (step.state ∷ b.abstract_states) sa s (b.answers.place k) (b.answers.conforms k s is)

      shift : (k l : ℕ) (j : Input) → Moves p b.abstract_inputs k l j → Moves p (step.input ∷ b.abstract_inputs) (suc k) (suc l) j
      shift k l j (inl same) = inl (ap suc same)
      shift k l j (inr on) = inr (record { is_next = ap suc on.is_next; input = on.input; is_input = on.is_input; agrees = on.agrees })

      goes : (k : ℕ) (j : Input) → slice_get (i ∷ inputs) k ≡ Some j → Moves p (step.input ∷ b.abstract_inputs) (after_move b.answers.place k) (after_move b.answers.place (suc k)) j
      goes zero j is = inr (record { is_next = ap suc b.answers.first; input = step.input; is_input = refl; agrees = subst (λ (x : Input). agree p step.input x ≡ true) (some_is i j is) step.agrees })
      goes (suc k) j is = shift (b.answers.place k) (b.answers.place (suc k)) j (b.answers.moves k j is)

  beside : (sa sc : State) (inputs : List Input) (states : List State) → IsState p.abstract_model sa → IsState p.concrete_model sc
      → Holds p.abstract_model sa → Holds p.concrete_model sc → conform p sa sc ≡ true → Follow p.concrete_model sc inputs states → Beside sa sc inputs states
  beside sa sc [] [] a_state c_state a_holds c_holds conforms follow = alone sa sc conforms
  beside sa sc [] (t ∷ states) a_state c_state a_holds c_holds conforms follow = absurd follow
  beside sa sc (i ∷ inputs) [] a_state c_state a_holds c_holds conforms follow = absurd follow
  beside sa sc (i ∷ inputs) (t ∷ states) a_state c_state a_holds c_holds conforms follow =
      elim (each sa sc i t (record { is_abstract = a_state; is_concrete = c_state; is_full = follow.0; abstract_holds = a_holds; concrete_holds = c_holds; conforms = conforms; steps = follow.1; next_holds = follow.2 })) as (λ _. Beside sa sc (i ∷ inputs) (t ∷ states)) [
        | inl same ↦ stay sa sc t i inputs states conforms (beside sa t inputs states a_state c_next a_holds follow.2 same follow.3)
        | inr step ↦ move sa sc t i inputs states conforms step (beside step.state t inputs states (a_stays sa step.input step.state a_state step.is_full step.steps) c_next step.holds follow.2 step.conforms follow.3)
      ]
    where
      c_next : IsState p.concrete_model t
      c_next = c_stays sc i t c_state follow.0 follow.1

  ok_is : (x y : State) → ◌≡◌ {A = Result State Stop} (Ok x) (Ok y) → x ≡ y
  ok_is x y is = ap (state_of x) is

  -- where the initial states conform, each run of the concrete model is answered
  pub refines_from : (sa sc : State) → initial p.abstract_model ≡ Ok sa → initial p.concrete_model ≡ Ok sc → IsState p.abstract_model sa → IsState p.concrete_model sc
      → Holds p.abstract_model sa → conform p sa sc ≡ true → Refines p
  refines_from sa sc a_first c_first a_state c_state a_holds conforms inputs [] run = absurd run
  refines_from sa sc a_first c_first a_state c_state a_holds conforms inputs (r ∷ states) run =
      let same : sc ≡ r = ok_is sc r (sym c_first ∙ run.0) in
      let b : Beside sa r inputs states = beside sa r inputs states a_state (subst (IsState p.concrete_model) same c_state) a_holds run.1 (subst (λ (s : State). conform p sa s ≡ true) same conforms) run.2 in
      record {
        abstract_inputs = b.abstract_inputs;
        abstract_states = sa ∷ b.abstract_states;
        is_run = (a_first, a_holds, b.follow);
        answers = b.answers;
      }

-- where the initial states conform and each allowed step is answered, each run of the concrete model is answered
pub answered_refine : (p : Linking) → StepsStay p.abstract_model → StepsStay p.concrete_model → (sa sc : State) → Begins p sa sc → EachAnswered p → Refines p
answered_refine p a_stays c_stays sa sc b each inputs states run =
    refines_from p a_stays c_stays each sa sc b.abstract_initial b.concrete_initial b.is_abstract b.is_concrete b.holds b.conforms inputs states run
