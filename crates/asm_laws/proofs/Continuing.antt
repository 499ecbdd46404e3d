-- Under an input that gives more, a rule that needs nothing gives the same, and so does a step.
use Rattle.std.proofs.Common.{◌≡◌, ℕ, zero, suc, ◌++◌, List, [], ◌∷◌, Option, Some, None, Bool as Truth, true, false, if◌then◌else◌, slice_get, refl, ap, sym, ◌∙◌, subst, Result, Ok, Err}
use Rattle.std.specs.Option.{unwrap_or, option_map}
use Rattle.std.specs.FinSet as set
use Rattle.std.specs.FinMap as finite
use Rattle.asm_source.specs.declared.sources.Place.{Place}
use Rattle.asm_domain.specs.declared.value.Value.{Value}
use Rattle.asm_domain.specs.declared.value.Value.TheVariants.{Undef, Bool, Int, Elem}
use Rattle.asm_sign.specs.declared.function.Function.{Function}
use Rattle.asm_node.specs.declared.stop.Stop.{Stop}
use Rattle.asm_node.specs.declared.stop.Stop.TheVariants as stop
use Rattle.asm_node.specs.declared.path.Step.TheVariants.{Part, Called, Bound}
use Rattle.asm_node.specs.Tree.{Tree, Trees, Const}
use Rattle.asm_node.specs.RuleTree.{Rule, Rules, Skip, Update, Par, Seq, If, Let, Forall, Choose, Call, none, more}
use Rattle.asm_node.specs.Machine.{Machine, Macro, State, Input, tuples_of, has_kind, is_shared}
use Rattle.asm_node.specs.Term.{World, Outcome, Gives, Needs, branch, val, vals, Places, put, put_tuple, nowhere}
use Rattle.asm_sign.specs.Vocabulary.{function_at}
use Rattle.asm_node.specs.UpdateSet.{UpdateSet, consistent, fire, clash}
use Rattle.asm_node.specs.Taking.{Attempt, Yields, Faults, Pick, Bodies, Path, and_then, evaluated, valued, updated, update, each, candidates, chosen, taken, taken_all, body_taken, bodies_within, outcome, stand_for, by_words, by_paths}
use Rattle.asm_node.specs.Step.{after, ended, next, Steps, shared_value, with_shared}
use Rattle.asm_laws.specs.Extending.{GivesAll, Keeps, Stays, under, Extends, StaysStep}
use Rattle.asm_node.proofs.Revising.{get-revised, same_state}
use Rattle.asm_laws.proofs.Extending.{WithInput, val-kept, vals-kept}

module _ {S : Type 0} where
  stays_same : {A : Type 0} (o : Attempt S A) → Stays o o
  stays_same (Yields a t) = refl
  stays_same (Faults (stop.Input l) t) = tt
  stays_same (Faults (stop.Clash l v u) t) = refl
  stays_same (Faults (stop.Invariant n) t) = refl
  stays_same (Faults (stop.Choice p) t) = refl
  stays_same (Faults (stop.UndefGuard p) t) = refl
  stays_same (Faults (stop.BadArgument p) t) = refl
  stays_same (Faults (stop.BadValue p l v) t) = refl
  stays_same (Faults (stop.BadInitial l v) t) = refl

  stays_then : {A B : Type 0} (o p : Attempt S A) (f g : A → S → Attempt S B) → Stays o p → ((a : A) (t : S) → Stays (f a t) (g a t)) → Stays (and_then o f) (and_then p g)
  stays_then (Yields a t) p f g same next = rw same (next a t)
  stays_then (Faults (stop.Input l) t) p f g same next = tt
  stays_then (Faults (stop.Clash l v u) t) p f g same next = rw same refl
  stays_then (Faults (stop.Invariant n) t) p f g same next = rw same refl
  stays_then (Faults (stop.Choice q) t) p f g same next = rw same refl
  stays_then (Faults (stop.UndefGuard q) t) p f g same next = rw same refl
  stays_then (Faults (stop.BadArgument q) t) p f g same next = rw same refl
  stays_then (Faults (stop.BadValue q l v) t) p f g same next = rw same refl
  stays_then (Faults (stop.BadInitial l v) t) p f g same next = rw same refl

  stays_evaluated : {A B : Type 0} (o p : Outcome A) (t : S) (f g : A → Attempt S B) → Keeps o p → ((a : A) → Stays (f a) (g a)) → Stays (evaluated o t f) (evaluated p t g)
  stays_evaluated (Gives a) p t f g same next = rw same (next a)
  stays_evaluated (Needs l) p t f g same next = tt

  stays_branch : {A : Type 0} (v : Value) (o p q r e f : Attempt S A) → Stays o p → Stays q r → Stays e f → Stays (branch v o q e) (branch v p r f)
  stays_branch (Bool true) o p q r e f h k l = h
  stays_branch (Bool false) o p q r e f h k l = k
  stays_branch Undef o p q r e f h k l = l
  stays_branch (Int z) o p q r e f h k l = l
  stays_branch (Elem d n) o p q r e f h k l = l

  stays_if : {A : Type 0} (b : Truth) (o p q r : Attempt S A) → Stays o p → Stays q r → Stays (if b then o else q) (if b then p else r)
  stays_if true o p q r h k = h
  stays_if false o p q r h k = k

  stays_each : (f g : List Value → S → Attempt S UpdateSet) → ((vs : List Value) (t : S) → Stays (f vs t) (g vs t)) → (tuples : List (List Value)) (u : UpdateSet) (t : S) → Stays (each f tuples u t) (each g tuples u t)
  stays_each f g h [] u t = refl
  stays_each f g h (vs ∷ tuples) u t = stays_then (f vs t) (g vs t) _ _ (h vs t) (λ v t. stays_each f g h tuples (set.union u v) t)

  stays_candidates : (place : Place) (f g : List Value → Outcome Value) → ((vs : List Value) → Keeps (f vs) (g vs)) → (tuples found : List (List Value)) (t : S) → Stays (candidates place f tuples found t) (candidates place g tuples found t)
  stays_candidates place f g h [] found t = refl
  stays_candidates place f g h (vs ∷ tuples) found t =
      stays_evaluated (f vs) (g vs) t _ _ (h vs) (λ v. stays_branch v _ _ _ _ _ _ (stays_candidates place f g h tuples (found ++ vs ∷ []) t) (stays_candidates place f g h tuples found t) refl)

  stays_chosen : (found : List (List Value)) (o p q r : Attempt S UpdateSet) → Stays o p → Stays q r → Stays (chosen found o q) (chosen found p r)
  stays_chosen [] o p q r h k = k
  stays_chosen (vs ∷ found) o p q r h k = h

module _ (m : Machine) (i j : Input) (more_given : GivesAll i j) where
  abbrev w : State → World
  w s = WithInput m s i

  abbrev w' : State → World
  w' s = WithInput m s j

  value : (s : State) (e : Places) (t : Tree) → Keeps (val (w s) e t) (val (w' s) e t)
  value s e t = val-kept m s i j more_given e t

  values : (s : State) (e : Places) (ts : Trees) → Keeps (vals (w s) e ts) (vals (w' s) e ts)
  values s e ts = vals-kept m s i j more_given e ts

  module _ {S : Type 0} where
    stays_updated : (s : State) (place : Place) (codomain : ℕ) (slot : Option ℕ) (e : Places) (t : Tree) (k : S) → Stays (updated (w s) place codomain slot (val (w s) e t) k) (updated (w' s) place codomain slot (val (w' s) e t) k)
    stays_updated s place codomain None e t k = refl
    stays_updated s place codomain (Some l) e t k = stays_evaluated (val (w s) e t) (val (w' s) e t) k _ _ (value s e t) (λ v. stays_same (valued (w s) place codomain l v k))

    stays_update : (s : State) (place : Place) (f : ℕ) (function : Option Function) (vs : List Value) (e : Places) (t : Tree) (k : S) → Stays (update (w s) place f function vs (val (w s) e t) k) (update (w' s) place f function vs (val (w' s) e t) k)
    stays_update s place f None vs e t k = refl
    stays_update s place f (Some function) vs e t k = stays_updated s place function.codomain _ e t k

    module _ (pick : Pick S) (bodies : Bodies S) (same_bodies : (f : ℕ) (path : Path) (s : State) (e : Places) (ts : Trees) (k : S) → Stays (bodies f path (w s) e ts k) (bodies f path (w' s) e ts k)) where
      mutual
        pub stays_taken : (r : Rule) (path : Path) (s : State) (e : Places) (k : S) → Stays (taken pick bodies path (w s) e r k) (taken pick bodies path (w' s) e r k)
        stays_taken (Skip place) path s e k = refl
        stays_taken (Update place f ts t) path s e k =
            stays_evaluated (vals (w s) e ts) (vals (w' s) e ts) k _ _ (values s e ts) (λ vs. stays_update s place f (slice_get m.signature.functions f) vs e t k)
        stays_taken (Par place rs) path s e k = stays_all rs path 0 s e set.empty k
        stays_taken (Seq place p q) path s e k =
            stays_then (taken pick bodies (path ++ Part 0 ∷ []) (w s) e p k) (taken pick bodies (path ++ Part 0 ∷ []) (w' s) e p k) _ _ (stays_taken p (path ++ Part 0 ∷ []) s e k)
            (λ u k. stays_if (consistent u) _ _ _ _
            (stays_then (taken pick bodies (path ++ Part 1 ∷ []) (w (fire s u)) e q k) (taken pick bodies (path ++ Part 1 ∷ []) (w' (fire s u)) e q k) _ _ (stays_taken q (path ++ Part 1 ∷ []) (fire s u) e k) (λ v k. refl))
            refl)
        stays_taken (If place g p q) path s e k =
            stays_evaluated (val (w s) e g) (val (w' s) e g) k _ _ (value s e g)
            (λ v. stays_branch v _ _ _ _ _ _ (stays_taken p (path ++ Part 0 ∷ []) s e k) (stays_taken q (path ++ Part 1 ∷ []) s e k) refl)
        stays_taken (Let place x t p) path s e k =
            stays_evaluated (val (w s) e t) (val (w' s) e t) k _ _ (value s e t) (λ v. stays_taken p (path ++ Bound (v ∷ []) ∷ []) s (put x (Const v) e) k)
        stays_taken (Forall place bs g p) path s e k =
            stays_each _ _ (λ vs k. stays_evaluated (val (w s) (put_tuple bs vs e) g) (val (w' s) (put_tuple bs vs e) g) k _ _ (value s (put_tuple bs vs e) g)
            (λ v. stays_branch v _ _ _ _ _ _ (stays_taken p (path ++ Bound vs ∷ []) s (put_tuple bs vs e) k) refl refl)) (tuples_of m.signature bs) set.empty k
        stays_taken (Choose place bs g p q) path s e k =
            stays_then (candidates place (λ vs. val (w s) (put_tuple bs vs e) g) (tuples_of m.signature bs) [] k) (candidates place (λ vs. val (w' s) (put_tuple bs vs e) g) (tuples_of m.signature bs) [] k) _ _
            (stays_candidates place _ _ (λ vs. value s (put_tuple bs vs e) g) (tuples_of m.signature bs) [] k)
            (λ found k. stays_chosen found _ _ _ _
            (stays_then (pick path place found k) (pick path place found k) _ _ (stays_same (pick path place found k)) (λ vs k. stays_taken p (path ++ Bound vs ∷ []) s (put_tuple bs vs e) k))
            (stays_taken q (path ++ Part 1 ∷ []) s e k))
        stays_taken (Call place f ts) path s e k = same_bodies f (path ++ Called f ∷ []) s e ts k

        pub stays_all : (rs : Rules) (path : Path) (n : ℕ) (s : State) (e : Places) (u : UpdateSet) (k : S) → Stays (taken_all pick bodies path n (w s) e rs u k) (taken_all pick bodies path n (w' s) e rs u k)
        stays_all none path n s e u k = refl
        stays_all (more r rs) path n s e u k =
            stays_then (taken pick bodies (path ++ Part n ∷ []) (w s) e r k) (taken pick bodies (path ++ Part n ∷ []) (w' s) e r k) _ _ (stays_taken r (path ++ Part n ∷ []) s e k) (λ v k. stays_all rs path (suc n) s e (set.union u v) k)

    stays_body : (pick : Pick S) (bodies : Bodies S) → ((f : ℕ) (path : Path) (s : State) (e : Places) (ts : Trees) (k : S) → Stays (bodies f path (w s) e ts k) (bodies f path (w' s) e ts k))
        → (path : Path) (s : State) (e : Places) (o : Option Macro) (ts : Trees) (k : S) → Stays (body_taken pick bodies path (w s) e o ts k) (body_taken pick bodies path (w' s) e o ts k)
    stays_body pick bodies same path s e None ts k = refl
    stays_body pick bodies same path s e (Some macro) ts k = stays_taken pick bodies same macro.body path s (stand_for macro.parameters e ts) k

    stays_bodies : (pick : Pick S) (n : ℕ) (f : ℕ) (path : Path) (s : State) (e : Places) (ts : Trees) (k : S) → Stays (bodies_within pick n f path (w s) e ts k) (bodies_within pick n f path (w' s) e ts k)
    stays_bodies pick zero f path s e ts k = refl
    stays_bodies pick (suc n) f path s e ts k = stays_body pick (bodies_within pick n) (stays_bodies pick n) path s e (slice_get m.rules f) ts k

    -- what a rule gives, or why it gives nothing, but for a need, stays under an input that gives more
    pub outcome_stays : (pick : Pick S) (s : State) (r : Rule) (k : S) → Stays (outcome pick (w s) r k) (outcome pick (w' s) r k)
    outcome_stays pick s r k = stays_taken pick (bodies_within pick 32) (stays_bodies pick 32) r [] s nowhere k

pub value_stays : (w : World) (j : Input) → GivesAll w.input j → (e : Places) (t : Tree) → Keeps (val w e t) (val (under w j) e t)
value_stays w j given e t = val-kept w.machine w.state w.input j given e t

pub gives_stays : {S : Type 0} (pick : Pick S) (w : World) (j : Input) → GivesAll w.input j → (r : Rule) (k : S) → Stays (outcome pick w r k) (outcome pick (under w j) r k)
gives_stays pick w j given r k = outcome_stays w.machine w.input j given pick w.state r k

-- ---- steps

step_same : (q : Result (State × List ℕ) Stop) → StaysStep q q
step_same (Ok p) = refl
step_same (Err (stop.Input l)) = tt
step_same (Err (stop.Clash l v u)) = refl
step_same (Err (stop.Invariant n)) = refl
step_same (Err (stop.Choice p)) = refl
step_same (Err (stop.UndefGuard p)) = refl
step_same (Err (stop.BadArgument p)) = refl
step_same (Err (stop.BadValue p l v)) = refl
step_same (Err (stop.BadInitial l v)) = refl

module _ (m : Machine) (s : State) (i j : Input) where
  after_same : (u : UpdateSet) (words : List ℕ) (c : Option (ℕ × Value × Value)) → after (WithInput m s i) u words c ≡ after (WithInput m s j) u words c
  after_same u words None = refl
  after_same u words (Some c) = refl

  ended_stays : (o p : Attempt (List ℕ) UpdateSet) → Stays o p → StaysStep (ended (WithInput m s i) o) (ended (WithInput m s j) p)
  ended_stays (Yields u words) p same = rw (same, after_same u words (clash m.signature u)) (step_same (after (WithInput m s j) u words (clash m.signature u)))
  ended_stays (Faults (stop.Input l) t) p same = tt
  ended_stays (Faults (stop.Clash l v u) t) p same = rw same refl
  ended_stays (Faults (stop.Invariant n) t) p same = rw same refl
  ended_stays (Faults (stop.Choice q) t) p same = rw same refl
  ended_stays (Faults (stop.UndefGuard q) t) p same = rw same refl
  ended_stays (Faults (stop.BadArgument q) t) p same = rw same refl
  ended_stays (Faults (stop.BadValue q l v) t) p same = rw same refl
  ended_stays (Faults (stop.BadInitial l v) t) p same = rw same refl

module _ (m : Machine) (s : State) (i j : Input) (e : Extends m i j) where
  shared_same : (l : ℕ) (v : Value) → shared_value m.signature i l v ≡ shared_value m.signature j l v
  shared_same l v =
      elim (has_kind is_shared (function_at m.signature l)) as (λ (b : Truth). has_kind is_shared (function_at m.signature l) ≡ b → (if b then unwrap_or (finite.get i l) v else v) ≡ (if b then unwrap_or (finite.get j l) v else v)) [
        | true ↦ λ is. ap (λ (o : Option Value). unwrap_or o v) (e.shares l is)
        | false ↦ λ is. refl
      ] refl

  mapped : (l : ℕ) (o : Option Value) → option_map (shared_value m.signature i l) o ≡ option_map (shared_value m.signature j l) o
  mapped l None = refl
  mapped l (Some v) = ap Some (shared_same l v)

  -- both inputs put the same shared values into the state
  same_start : with_shared m.signature i s ≡ with_shared m.signature j s
  same_start = same_state _ _ (λ l. get-revised (shared_value m.signature i) s l ∙ (mapped l (finite.get s l) ∙ sym (get-revised (shared_value m.signature j) s l)))

  -- a step stays under an input that extends the other
  pub next_stays : (words : List ℕ) (r : Rule) → StaysStep (next m s i words r) (next m s j words r)
  next_stays words r =
      subst (λ (t : State). StaysStep (next m s i words r) (ended (WithInput m t j) (outcome by_words (WithInput m t j) r words))) same_start
      (ended_stays m (with_shared m.signature i s) i j _ _ (outcome_stays m i j e.gives by_words (with_shared m.signature i s) r words))

  -- and so does a step under some choices
  pub steps_stay : (t : State) → Steps m s i t → Steps m s j t
  steps_stay t p = record {
    choosing = p.choosing;
    updates = p.updates;
    gives =
        subst (λ (u : State). outcome (by_paths p.choosing) (WithInput m u j) m.main tt ≡ Yields p.updates tt) same_start
        (stays_is (outcome (by_paths p.choosing) (WithInput m (with_shared m.signature i s) i) m.main tt) _ p.updates tt p.gives (outcome_stays m i j e.gives (by_paths p.choosing) (with_shared m.signature i s) m.main tt));
    is_consistent = p.is_consistent;
    next_is = ap (λ (u : State). fire u p.updates) (sym same_start) ∙ p.next_is;
  }
    where
      stays_is : {S A : Type 0} (o p : Attempt S A) (a : A) (t : S) → o ≡ Yields a t → Stays o p → p ≡ Yields a t
      stays_is o p a t is h = subst (λ (q : Attempt _ _). Stays q p) is h
