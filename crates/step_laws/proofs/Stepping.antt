-- Steps by choice words are steps by choices, and a step leads to a state.
use Rattle.std.proofs.Common.{◌≡◌, ℕ, true, List, [], ◌++◌, Option, Some, None, refl, ap, sym, ◌∙◌, subst}
use Rattle.std.specs.Prelude.{Result, Ok, Err}
use Rattle.std.proofs.lemmas.List.{append-nil}
use Rattle.std.specs.FinSet as set
use Rattle.asm_domain.specs.declared.value.Value.{Value}
use Rattle.asm_domain.specs.Universe.{AreDistinct}
use Rattle.asm_sign.specs.Vocabulary.{locations, function_at}
use Rattle.asm_node.specs.declared.stop.Stop.{Stop}
use Rattle.asm_node.specs.Machine.{Machine, State, Input}
use Rattle.asm_node.specs.Term.{nowhere}
use Rattle.asm_node.specs.Taking.{Attempt, Yields, Faults, Choosing, outcome, by_words, by_paths}
use Rattle.asm_node.specs.UpdateSet.{UpdateSet, clash, consistent, ranked_values, values_at}
use Rattle.asm_laws.specs.Choosing.{GivesByWords, GivesByPaths}
use Rattle.asm_node.specs.Step.{IsState, IsInput, Steps, next, ended, after, world_at, with_shared}
use Rattle.asm_node.specs.WellFormed.{IsWellFormed}
use Rattle.asm_laws.proofs.ChoosingWords.{words_for}
use Rattle.asm_laws.proofs.ChoosingPaths.{paths_for}
use Rattle.asm_laws.proofs.Following.{by_words_too}
use Rattle.asm_fire.specs.Drawing.{DrawsFor}
use Rattle.asm_fire.specs.Sound.{AreKept}
use Rattle.asm_fire.proofs.Keeping.{kept-taken, fired-state, have_locations}
use Rattle.asm_fire.proofs.Sounding.{rule_is_sound}
use Rattle.asm_node.proofs.UpdateSets.{of_list, pair_total, pair_apart}
use Rattle.asm_update.specs.Clash.{HaveLocations, first_pair}
use Rattle.asm_update.proofs.Clashes.{IsQuiet, clash_from-none}
use Rattle.asm_update.proofs.Differing.{filtered_differ, one_value, consistent_without_clash}
use Rattle.asm_laws.proofs.Differing.{tuples_differ, values_differ}
use Rattle.step_laws.specs.Stepping.{Leads}
use Rattle.asm_laws.proofs.Filling.{shared_state}

module _ (m : Machine) (s : State) (i : Input) where
  by_some_words : (t : State) (p : Steps m s i t) → GivesByWords (world_at m s i) m.main p.updates
  by_some_words t p = words_for (world_at m s i) m.main p.updates (record { choosing = p.choosing; gives = p.gives })

  -- what the main rule gives in a state is kept
  is_kept : IsWellFormed m → IsInput m i → IsState m s → (words rest : List ℕ) (u : UpdateSet) → outcome by_words (world_at m s i) m.main words ≡ Yields u rest → AreKept m u
  is_kept formed input state words rest u is =
      kept-taken m i 32 [] (with_shared m.signature i s) nowhere m.main words rest u (shared_state m s i state input) (rule_is_sound m i input formed m.main formed.main) is

-- a step leads from a state to a state
pub steps_stay_states : (m : Machine) → IsWellFormed m → (s : State) (i : Input) (t : State) → IsState m s → IsInput m i → Steps m s i t → IsState m t
steps_stay_states m formed s i t state input p =
    let k : GivesByWords (world_at m s i) m.main p.updates = by_some_words m s i t p in
    let kept : AreKept m p.updates = is_kept m s i formed input state (k.words ++ []) [] p.updates (k.gives []) in
    subst (IsState m) p.next_is (fired-state m (with_shared m.signature i s) p.updates (shared_state m s i state input) kept)

-- a state that is made of a set's pairs
same_items : (u : UpdateSet) → of_list (set.items u) ≡ u
same_items u = set.same_set pair_total pair_apart _ _ (λ q. set.contains-from_list pair_total (set.items u) q ∙ sym (set.contains-items u q))

module _ (m : Machine) (u : UpdateSet) where
  quiet : ((l : ℕ) → AreDistinct (ranked_values m.signature (function_at m.signature l))) → consistent (of_list (set.items u)) ≡ true → (l : ℕ) → IsQuiet m.signature (of_list (set.items u)) l
  quiet distinct agrees l =
      elim (first_pair (values_at m.signature (of_list (set.items u)) l)) as (λ o. first_pair (values_at m.signature (of_list (set.items u)) l) ≡ o → o ≡ None) [
        | None ↦ λ _. refl
        | Some p ↦ λ two.
            let r = filtered_differ (λ x. set.contains (of_list (set.items u)) (l, x)) (ranked_values m.signature (function_at m.signature l)) (distinct l) p.0 p.1 two in
            absurd (r.2 (one_value (set.items u) l p.0 p.1 agrees r.0 r.1))
      ] refl

  -- a consistent set has no clash
  no_clash : ((l : ℕ) → AreDistinct (ranked_values m.signature (function_at m.signature l))) → consistent u ≡ true → clash m.signature u ≡ None
  no_clash distinct agrees =
      subst (λ (v : UpdateSet). clash m.signature v ≡ None) (same_items u)
      (clash_from-none m.signature (of_list (set.items u)) (locations m.signature) 0 (λ l _ _. quiet distinct (ap consistent (same_items u) ∙ agrees) l))

  -- and a set of kept pairs that has no clash is consistent
  agreeing : AreKept m u → clash m.signature u ≡ None → consistent u ≡ true
  agreeing kept none =
      subst (λ (v : UpdateSet). consistent v ≡ true) (same_items u)
      (consistent_without_clash m.signature (set.items u) (subst (HaveLocations m.signature) (sym (same_items u)) (have_locations m u kept)) (ap (clash m.signature) (same_items u) ∙ none))

-- what the main rule gives under words is fired
fired_under : (m : Machine) (s : State) (i : Input) (t : State) (words rest : List ℕ) → IsWellFormed m → (p : Steps m s i t) → outcome by_words (world_at m s i) m.main words ≡ Yields p.updates rest → next m s i words m.main ≡ Ok (t, rest)
fired_under m s i t words rest formed p gives =
    ap (ended (world_at m s i)) gives
    ∙ ap (after (world_at m s i) p.updates rest) (no_clash m p.updates (values_differ m formed) p.is_consistent)
    ∙ ap (λ (s : State). reached s) p.next_is
  where
    reached : State → Result (State × List ℕ) Stop
    reached s = Ok (s, rest)

-- a step under some choices is the next state under some words, of which those that stand behind are left
pub words_before : (m : Machine) (s : State) (i : Input) (t : State) → IsWellFormed m → Steps m s i t → (words : List ℕ) × ((rest : List ℕ) → next m s i (words ++ rest) m.main ≡ Ok (t, rest))
words_before m s i t formed p =
    let k : GivesByWords (world_at m s i) m.main p.updates = by_some_words m s i t p in
    (k.words, λ rest. fired_under m s i t (k.words ++ rest) rest formed p (k.gives rest))

-- so it is that under these words alone, which are all taken
pub words_of : (m : Machine) (s : State) (i : Input) (t : State) → IsWellFormed m → Steps m s i t → (words : List ℕ) × (next m s i words m.main ≡ Ok (t, []))
words_of m s i t formed p =
    let k = words_before m s i t formed p in
    (k.0, ap (λ (words : List ℕ). next m s i words m.main) (sym (append-nil k.0)) ∙ k.1 [])

-- so are those that are drawn for the choices of a step
pub drawn_lead : (m : Machine) (s : State) (i : Input) (choosing : Choosing) (t : State) (words : List ℕ) → IsWellFormed m → Leads m s i choosing t → DrawsFor (world_at m s i) m.main choosing words → next m s i words m.main ≡ Ok (t, [])
drawn_lead m s i choosing t words formed leads draws =
    let gives = draws leads.steps.updates (subst (λ (c : Choosing). outcome (by_paths c) (world_at m s i) m.main tt ≡ Yields leads.steps.updates tt) leads.by_choices leads.steps.gives) in
    fired_under m s i t words [] formed leads.steps (by_words_too (world_at m s i) m.main leads.steps.updates words [] gives)

-- the next state under some words, from a state under an input of its model, is a step under some choices
pub choices_of : (m : Machine) (s : State) (i : Input) (t : State) (words rest : List ℕ) → IsWellFormed m → IsInput m i → IsState m s → next m s i words m.main ≡ Ok (t, rest) → Steps m s i t
choices_of m s i t words rest formed input state is = go (outcome by_words (world_at m s i) m.main words) refl is
  where
    state_or : State → Result (State × List ℕ) Stop → State
    state_or s (Ok p) = p.0
    state_or s (Err e) = s

    is_ok : Result (State × List ℕ) Stop → Type 0
    is_ok (Ok p) = Unit {0}
    is_ok (Err e) = ⊥

    made : (u : UpdateSet) (left : List ℕ) (c : Option (ℕ × Value × Value)) → outcome by_words (world_at m s i) m.main words ≡ Yields u left → clash m.signature u ≡ c → after (world_at m s i) u left c ≡ Ok (t, rest) → Steps m s i t
    made u left None gives none ends =
        let q : GivesByPaths (world_at m s i) m.main u = paths_for (world_at m s i) m.main u words left (tuples_differ m formed) gives in
        record {
          choosing = q.choosing;
          updates = u;
          gives = q.gives;
          is_consistent = agreeing m u (is_kept m s i formed input state words left u gives) none;
          next_is = ap (state_or s) ends;
        }
    made u left (Some c) gives some ends = absurd (subst is_ok (sym ends) tt)

    go : (o : Attempt (List ℕ) UpdateSet) → outcome by_words (world_at m s i) m.main words ≡ o → ended (world_at m s i) o ≡ Ok (t, rest) → Steps m s i t
    go (Yields u left) gives ends = made u left (clash m.signature u) gives refl ends
    go (Faults stop left) gives ends = absurd (subst is_ok (sym ends) tt)
