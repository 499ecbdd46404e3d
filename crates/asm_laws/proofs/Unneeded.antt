-- Under a full input no rule ends with a need.
use Rattle.std.proofs.Common.{ℕ, zero, suc, ◌++◌, ◌||◌, List, [], ◌∷◌, Option, Some, None, Bool as Truth, true, false, if◌then◌else◌, slice_get}
use Rattle.std.specs.List.{list_any}
use Rattle.std.specs.FinSet as set
use Rattle.asm_source.specs.declared.sources.Place.{Place}
use Rattle.asm_domain.specs.declared.value.Value.{Value}
use Rattle.asm_domain.specs.declared.value.Value.TheVariants.{Undef, Bool, Int, Elem}
use Rattle.asm_sign.specs.declared.function.Function.{Function}
use Rattle.asm_node.specs.declared.stop.Stop.{Stop}
use Rattle.asm_node.specs.declared.stop.Stop.TheVariants as stop
use Rattle.asm_node.specs.declared.path.Step.TheVariants.{Part, Called, Bound}
use Rattle.asm_node.specs.Tree.{Trees, Const}
use Rattle.asm_node.specs.RuleTree.{Rule, Rules, Skip, Update, Par, Seq, If, Let, Forall, Choose, Call, none, more}
use Rattle.asm_node.specs.Values.{is_undef, is_element, same_all}
use Rattle.asm_node.specs.Machine.{Macro, slot_at, tuples_of}
use Rattle.asm_node.specs.Term.{World, Outcome, Gives, Needs, branch, val, vals, Places, put, put_tuple, nowhere}
use Rattle.asm_node.specs.UpdateSet.{UpdateSet, consistent}
use Rattle.asm_node.specs.Taking.{Attempt, Yields, Faults, Pick, Bodies, Path, and_then, evaluated, valued, updated, update, each, candidates, chosen, taken, taken_all, body_taken, bodies_within, outcome, stand_for, fired, by_words, by_paths, candidate, Choosing}
use Rattle.asm_node.specs.Step.{IsFull}
use Rattle.asm_laws.specs.Full.{NeedsNothing}
use Rattle.asm_laws.proofs.Needing.{HasAnswer, val_answers, vals_answer}

module _ {S : Type 0} where
  fault_too : (A B : Type 0) (e : Stop) (t : S) → NeedsNothing {A = A} (Faults e t) → NeedsNothing {A = B} (Faults e t)
  fault_too A B (stop.Input l) t h = absurd h
  fault_too A B (stop.Clash l v u) t h = tt
  fault_too A B (stop.Invariant n) t h = tt
  fault_too A B (stop.Choice p) t h = tt
  fault_too A B (stop.UndefGuard p) t h = tt
  fault_too A B (stop.BadArgument p) t h = tt
  fault_too A B (stop.BadValue p l v) t h = tt
  fault_too A B (stop.BadInitial l v) t h = tt

  needs_then : {A B : Type 0} (o : Attempt S A) (f : A → S → Attempt S B) → NeedsNothing o → ((a : A) (t : S) → NeedsNothing (f a t)) → NeedsNothing (and_then o f)
  needs_then (Yields a t) f h next = next a t
  needs_then {A} {B} (Faults e t) f h next = fault_too A B e t h

  needs_evaluated : {A B : Type 0} (o : Outcome A) (t : S) (f : A → Attempt S B) → HasAnswer o → ((a : A) → NeedsNothing (f a)) → NeedsNothing (evaluated o t f)
  needs_evaluated (Gives a) t f h next = next a
  needs_evaluated (Needs l) t f h next = absurd h

  needs_branch : {A : Type 0} (v : Value) (o p q : Attempt S A) → NeedsNothing o → NeedsNothing p → NeedsNothing q → NeedsNothing (branch v o p q)
  needs_branch (Bool true) o p q h k l = h
  needs_branch (Bool false) o p q h k l = k
  needs_branch Undef o p q h k l = l
  needs_branch (Int z) o p q h k l = l
  needs_branch (Elem d n) o p q h k l = l

  needs_if : {A : Type 0} (b : Truth) (o p : Attempt S A) → NeedsNothing o → NeedsNothing p → NeedsNothing (if b then o else p)
  needs_if true o p h k = h
  needs_if false o p h k = k

  needs_each : (f : List Value → S → Attempt S UpdateSet) → ((vs : List Value) (t : S) → NeedsNothing (f vs t)) → (tuples : List (List Value)) (u : UpdateSet) (t : S) → NeedsNothing (each f tuples u t)
  needs_each f h [] u t = tt
  needs_each f h (vs ∷ tuples) u t = needs_then (f vs t) _ (h vs t) (λ v t. needs_each f h tuples (set.union u v) t)

  needs_candidates : (place : Place) (guard : List Value → Outcome Value) → ((vs : List Value) → HasAnswer (guard vs)) → (tuples found : List (List Value)) (t : S) → NeedsNothing (candidates place guard tuples found t)
  needs_candidates place guard h [] found t = tt
  needs_candidates place guard h (vs ∷ tuples) found t =
      needs_evaluated (guard vs) t _ (h vs) (λ v. needs_branch v _ _ _ (needs_candidates place guard h tuples (found ++ vs ∷ []) t) (needs_candidates place guard h tuples found t) tt)

  needs_chosen : (found : List (List Value)) (o p : Attempt S UpdateSet) → NeedsNothing o → NeedsNothing p → NeedsNothing (chosen found o p)
  needs_chosen [] o p h k = k
  needs_chosen (vs ∷ found) o p h k = h

  needs_valued : (w : World) (place : Place) (codomain l : ℕ) (v : Value) (t : S) → NeedsNothing (valued w place codomain l v t)
  needs_valued w place codomain l v t = needs_if (is_undef v || is_element w.machine.signature.domains codomain v) _ _ tt tt

  needs_update : (w : World) (place : Place) (f : ℕ) (function : Option Function) (vs : List Value) (o : Outcome Value) (t : S) → HasAnswer o → NeedsNothing (update w place f function vs o t)
  needs_update w place f None vs o t h = tt
  needs_update w place f (Some function) vs o t h = of_slot (slot_at w.machine.signature f vs)
    where
      of_slot : (slot : Option ℕ) → NeedsNothing (updated w place function.codomain slot o t)
      of_slot None = tt
      of_slot (Some l) = needs_evaluated o t _ h (λ v. needs_valued w place function.codomain l v t)

  module _ (pick : Pick S) (picks : (path : Path) (place : Place) (found : List (List Value)) (t : S) → NeedsNothing (pick path place found t)) where
    abbrev NeedNothing : Bodies S → Type 0
    NeedNothing bodies = (f : ℕ) (path : Path) (w : World) (e : Places) (ts : Trees) (t : S) → IsFull w.machine w.input → NeedsNothing (bodies f path w e ts t)

    module _ (bodies : Bodies S) (inner : NeedNothing bodies) where
      mutual
        pub needs_taken : (r : Rule) (path : Path) (w : World) (e : Places) (t : S) → IsFull w.machine w.input → NeedsNothing (taken pick bodies path w e r t)
        needs_taken (Skip place) path w e t full = tt
        needs_taken (Update place f ts x) path w e t full =
            needs_evaluated (vals w e ts) t _ (vals_answer w full e ts) (λ vs. needs_update w place f (slice_get w.machine.signature.functions f) vs (val w e x) t (val_answers w full e x))
        needs_taken (Par place rs) path w e t full = needs_all rs path 0 w e set.empty t full
        needs_taken (Seq place p q) path w e t full =
            needs_then (taken pick bodies (path ++ Part 0 ∷ []) w e p t) _ (needs_taken p (path ++ Part 0 ∷ []) w e t full)
            (λ u t. needs_if (consistent u) _ _ (needs_then (taken pick bodies (path ++ Part 1 ∷ []) (fired w u) e q t) _ (needs_taken q (path ++ Part 1 ∷ []) (fired w u) e t full) (λ v t. tt)) tt)
        needs_taken (If place g p q) path w e t full =
            needs_evaluated (val w e g) t _ (val_answers w full e g) (λ v. needs_branch v _ _ _ (needs_taken p (path ++ Part 0 ∷ []) w e t full) (needs_taken q (path ++ Part 1 ∷ []) w e t full) tt)
        needs_taken (Let place x y p) path w e t full = needs_evaluated (val w e y) t _ (val_answers w full e y) (λ v. needs_taken p (path ++ Bound (v ∷ []) ∷ []) w (put x (Const v) e) t full)
        needs_taken (Forall place bs g p) path w e t full =
            needs_each _ (λ vs t. needs_evaluated (val w (put_tuple bs vs e) g) t _ (val_answers w full (put_tuple bs vs e) g) (λ v. needs_branch v _ _ _ (needs_taken p (path ++ Bound vs ∷ []) w (put_tuple bs vs e) t full) tt tt))
            (tuples_of w.machine.signature bs) set.empty t
        needs_taken (Choose place bs g p q) path w e t full =
            needs_then (candidates place (λ vs. val w (put_tuple bs vs e) g) (tuples_of w.machine.signature bs) [] t) _
            (needs_candidates place _ (λ vs. val_answers w full (put_tuple bs vs e) g) (tuples_of w.machine.signature bs) [] t)
            (λ found t. needs_chosen found _ _
            (needs_then (pick path place found t) _ (picks path place found t) (λ vs t. needs_taken p (path ++ Bound vs ∷ []) w (put_tuple bs vs e) t full))
            (needs_taken q (path ++ Part 1 ∷ []) w e t full))
        needs_taken (Call place f ts) path w e t full = inner f (path ++ Called f ∷ []) w e ts t full

        pub needs_all : (rs : Rules) (path : Path) (n : ℕ) (w : World) (e : Places) (u : UpdateSet) (t : S) → IsFull w.machine w.input → NeedsNothing (taken_all pick bodies path n w e rs u t)
        needs_all none path n w e u t full = tt
        needs_all (more r rs) path n w e u t full = needs_then (taken pick bodies (path ++ Part n ∷ []) w e r t) _ (needs_taken r (path ++ Part n ∷ []) w e t full) (λ v t. needs_all rs path (suc n) w e (set.union u v) t full)

    needs_body : (bodies : Bodies S) → NeedNothing bodies → (path : Path) (w : World) (e : Places) (o : Option Macro) (ts : Trees) (t : S) → IsFull w.machine w.input → NeedsNothing (body_taken pick bodies path w e o ts t)
    needs_body bodies inner path w e None ts t full = tt
    needs_body bodies inner path w e (Some macro) ts t full = needs_taken bodies inner macro.body path w (stand_for macro.parameters e ts) t full

    needs_bodies : (n : ℕ) → NeedNothing (bodies_within pick n)
    needs_bodies zero f path w e ts t full = tt
    needs_bodies (suc n) f path w e ts t full = needs_body (bodies_within pick n) (needs_bodies n) path w e (slice_get w.machine.rules f) ts t full

    pub needs_outcome : (w : World) → IsFull w.machine w.input → (r : Rule) (t : S) → NeedsNothing (outcome pick w r t)
    needs_outcome w full r t = needs_taken (bodies_within pick 32) (needs_bodies 32) r [] w nowhere t full

words_pick : (path : Path) (place : Place) (found : List (List Value)) (words : List ℕ) → NeedsNothing (by_words path place found words)
words_pick path place found [] = tt
words_pick path place found (word ∷ words) = tt

paths_pick : (c : Choosing) (path : Path) (place : Place) (found : List (List Value)) (t : Unit {0}) → NeedsNothing (by_paths c path place found t)
paths_pick c path place found t = of_choice (c path)
  where
    of_choice : (o : Option (List Value)) → NeedsNothing (candidate place found o)
    of_choice None = tt
    of_choice (Some tuple) = needs_if (list_any (same_all tuple) found) _ _ tt tt

pub words_need : (w : World) → IsFull w.machine w.input → (r : Rule) (words : List ℕ) → NeedsNothing (outcome by_words w r words)
words_need w full r words = needs_outcome by_words words_pick w full r words

pub choices_need : (w : World) → IsFull w.machine w.input → (r : Rule) (c : Choosing) → NeedsNothing (outcome (by_paths c) w r tt)
choices_need w full r c = needs_outcome (by_paths c) (paths_pick c) w full r tt
