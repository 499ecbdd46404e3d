-- What a rule gives where each choice is made at its path, it gives under some choice words.
use Rattle.std.proofs.Common.{◌≡◌, ℕ, zero, suc, ◌<◌, ◌%◌, ◌++◌, ◌||◌, List, [], ◌∷◌, Option, Some, None, Bool as Truth, true, false, if◌then◌else◌, slice_get, slice_index_or, length, nat_lt, refl, ap, sym, ◌∙◌, subst, arith, append_assoc, true≢false}
use Rattle.std.specs.Prelude.{⊤}
use Rattle.std.specs.List.{list_any}
use Rattle.std.proofs.Math.Nat.{mod-eq_of_lt}
use Rattle.std.proofs.lemmas.Bool.Decides.{nat_tests}
use Rattle.std.specs.FinSet as set
use Rattle.asm_source.specs.declared.sources.Place.{Place}
use Rattle.asm_domain.specs.declared.value.Value.{Value}
use Rattle.asm_domain.specs.declared.value.Value.TheVariants.{Undef, Bool, Int, Elem}
use Rattle.asm_sign.specs.declared.function.Function.{Function}
use Rattle.asm_node.specs.declared.stop.Stop.TheVariants as stop
use Rattle.asm_node.specs.declared.path.Step.TheVariants.{Part, Called, Bound}
use Rattle.asm_node.specs.Tree.{Trees, Const}
use Rattle.asm_node.specs.RuleTree.{Rule, Rules, Skip, Update, Par, Seq, If, Let, Forall, Choose, Call, none, more}
use Rattle.asm_node.specs.Machine.{Macro, tuples_of}
use Rattle.asm_node.specs.Values.{same_all, is_undef, is_element}
use Rattle.asm_node.specs.Term.{World, Outcome, Gives, Needs, branch, val, vals, Places, put, put_tuple, nowhere}
use Rattle.asm_node.specs.UpdateSet.{UpdateSet, consistent, override, one}
use Rattle.asm_node.specs.Taking.{Attempt, Yields, Faults, Pick, Bodies, Path, and_then, evaluated, valued, updated, update, each, candidates, chosen, taken, taken_all, body_taken, bodies_within, outcome, stand_for, fired, by_words, by_paths, candidate, Choosing}
use Rattle.asm_laws.specs.Choosing.{GivesByWords, GivesByPaths, by_small_words, GivesBySmallWords}
use Rattle.asm_node.proofs.Sameness.{same_all_is}

-- the answer is also given where some words stand first, which are then taken
abbrev pub Draws : {A : Type 0} → Attempt (Unit {0}) A → (List ℕ → Attempt (List ℕ) A) → Type 0
Draws (Yields a t) F = (words : List ℕ) × ((rest : List ℕ) → F (words ++ rest) ≡ Yields a rest)
Draws (Faults e t) F = ⊤

draws_none : {A : Type 0} (a : A) (F : List ℕ → Attempt (List ℕ) A) → ((rest : List ℕ) → F rest ≡ Yields a rest) → Draws (Yields a tt) F
draws_none a F h = ([], h)

draws_then : {A B : Type 0} (o : Attempt (Unit {0}) A) (f : A → Unit {0} → Attempt (Unit {0}) B) (F : List ℕ → Attempt (List ℕ) A) (g : A → List ℕ → Attempt (List ℕ) B)
    → Draws o F → ((a : A) → Draws (f a tt) (g a)) → Draws (and_then o f) (λ s. and_then (F s) g)
draws_then {A} {B} (Yields a t) f F g h next = go (f a t) (next a)
  where
    go : (o : Attempt (Unit {0}) B) → Draws o (g a) → Draws o (λ s. and_then (F s) g)
    go (Faults e t) k = tt
    go (Yields b t) k = (h.0 ++ k.0, λ rest. ap (λ (ws : List ℕ). and_then (F ws) g) (append_assoc h.0 k.0 rest) ∙ (ap (λ (o : Attempt (List ℕ) A). and_then o g) (h.1 (k.0 ++ rest)) ∙ k.1 rest))
draws_then (Faults e t) f F g h next = tt

draws_evaluated : {A B : Type 0} (o : Outcome A) (f : A → Attempt (Unit {0}) B) (g : A → List ℕ → Attempt (List ℕ) B) → ((a : A) → Draws (f a) (g a)) → Draws (evaluated o tt f) (λ s. evaluated o s (λ a. g a s))
draws_evaluated (Gives a) f g next = next a
draws_evaluated (Needs l) f g next = tt

draws_branch : {A : Type 0} (v : Value) (o p q : Attempt (Unit {0}) A) (F G H : List ℕ → Attempt (List ℕ) A) → Draws o F → Draws p G → Draws q H → Draws (branch v o p q) (λ s. branch v (F s) (G s) (H s))
draws_branch (Bool true) o p q F G H h k l = h
draws_branch (Bool false) o p q F G H h k l = k
draws_branch Undef o p q F G H h k l = l
draws_branch (Int z) o p q F G H h k l = l
draws_branch (Elem d n) o p q F G H h k l = l

draws_if : {A : Type 0} (b : Truth) (o p : Attempt (Unit {0}) A) (F G : List ℕ → Attempt (List ℕ) A) → Draws o F → Draws p G → Draws (if b then o else p) (λ s. if b then F s else G s)
draws_if true o p F G h k = h
draws_if false o p F G h k = k

draws_each : (f : List Value → Unit {0} → Attempt (Unit {0}) UpdateSet) (g : List Value → List ℕ → Attempt (List ℕ) UpdateSet) → ((vs : List Value) → Draws (f vs tt) (g vs))
    → (tuples : List (List Value)) (u : UpdateSet) → Draws (each f tuples u tt) (each g tuples u)
draws_each f g h [] u = draws_none u _ (λ rest. refl)
draws_each f g h (vs ∷ tuples) u = draws_then (f vs tt) _ (g vs) _ (h vs) (λ v. draws_each f g h tuples (set.union u v))

draws_candidates : (place : Place) (guard : List Value → Outcome Value) (tuples found : List (List Value)) → Draws (candidates place guard tuples found tt) (candidates place guard tuples found)
draws_candidates place guard [] found = draws_none found _ (λ rest. refl)
draws_candidates place guard (vs ∷ tuples) found =
    draws_evaluated (guard vs) _ _ (λ v. draws_branch v _ _ _ (candidates place guard tuples (found ++ vs ∷ [])) (candidates place guard tuples found) _
    (draws_candidates place guard tuples (found ++ vs ∷ [])) (draws_candidates place guard tuples found) tt)

draws_chosen : (found : List (List Value)) (o p : Attempt (Unit {0}) UpdateSet) (F G : List ℕ → Attempt (List ℕ) UpdateSet) → Draws o F → Draws p G → Draws (chosen found o p) (λ s. chosen found (F s) (G s))
draws_chosen [] o p F G h k = k
draws_chosen (vs ∷ found) o p F G h k = h

-- a candidate stands at some place among all
pub at_place : (tuple : List Value) (found : List (List Value)) → list_any (same_all tuple) found ≡ true → (k : ℕ) × (k < length found) × (slice_index_or found k [] ≡ tuple)
at_place tuple [] is = absurd (true≢false (sym is))
at_place tuple (vs ∷ found) is =
    elim (same_all tuple vs) as (λ (b : Truth). same_all tuple vs ≡ b → (b || list_any (same_all tuple) found) ≡ true → (k : ℕ) × (k < length (vs ∷ found)) × (slice_index_or (vs ∷ found) k [] ≡ tuple)) [
      | true ↦ λ e h. (0, omega arith, sym (same_all_is tuple vs e))
      | false ↦ λ e h. (let p = at_place tuple found h in (suc p.0, omega (arith, p.1), p.2))
    ] refl is

mod_small : (k n : ℕ) → k < n → k % n ≡ k
mod_small k n lt = mod-eq_of_lt lt

draws_pick : (c : Choosing) (path : Path) (place : Place) (found : List (List Value)) → Draws (by_paths c path place found tt) (by_words path place found)
draws_pick c path place found = go (c path)
  where
    go : (o : Option (List Value)) → Draws (candidate place found o) (by_words path place found)
    go None = tt
    go (Some tuple) =
        elim (list_any (same_all tuple) found) as (λ (b : Truth). list_any (same_all tuple) found ≡ b → Draws (if b then Yields tuple tt else Faults (stop.Choice place) tt) (by_words path place found)) [
          | true ↦ λ is. (let p = at_place tuple found is in (p.0 ∷ [], λ rest. ap (λ (k : ℕ). Yields (slice_index_or found k []) rest) (mod_small p.0 (length found) p.1) ∙ ap (λ (vs : List Value). Yields vs rest) p.2))
          | false ↦ λ is. tt
        ] refl

draws_valued : (w : World) (place : Place) (codomain l : ℕ) (v : Value) → Draws (valued w place codomain l v tt) (valued w place codomain l v)
draws_valued w place codomain l v =
    draws_if (is_undef v || is_element w.machine.signature.domains codomain v) (Yields (one l v) tt) (Faults (stop.BadValue place l v) tt) (λ s. Yields (one l v) s) (λ s. Faults (stop.BadValue place l v) s) (draws_none (one l v) _ (λ rest. refl)) tt

draws_updated : (w : World) (place : Place) (codomain : ℕ) (slot : Option ℕ) (value : Outcome Value) → Draws (updated w place codomain slot value tt) (updated w place codomain slot value)
draws_updated w place codomain None value = tt
draws_updated w place codomain (Some l) value = draws_evaluated value _ _ (draws_valued w place codomain l)

draws_update : (w : World) (place : Place) (f : ℕ) (function : Option Function) (vs : List Value) (value : Outcome Value) → Draws (update w place f function vs value tt) (update w place f function vs value)
draws_update w place f None vs value = tt
draws_update w place f (Some function) vs value = draws_updated w place function.codomain _ value

module _ (c : Choosing) (pick : Pick (List ℕ)) (picks : (path : Path) (place : Place) (found : List (List Value)) → Draws (by_paths c path place found tt) (pick path place found)) (bodies : Bodies (Unit {0})) (bodies' : Bodies (List ℕ)) (drawn : (f : ℕ) (path : Path) (w : World) (e : Places) (ts : Trees) → Draws (bodies f path w e ts tt) (bodies' f path w e ts)) where
  mutual
    pub draws_taken : (r : Rule) (path : Path) (w : World) (e : Places) → Draws (taken (by_paths c) bodies path w e r tt) (taken pick bodies' path w e r)
    draws_taken (Skip place) path w e = draws_none set.empty _ (λ rest. refl)
    draws_taken (Update place f ts t) path w e = draws_evaluated (vals w e ts) _ _ (λ vs. draws_update w place f (slice_get w.machine.signature.functions f) vs (val w e t))
    draws_taken (Par place rs) path w e = draws_all rs path 0 w e set.empty
    draws_taken (Seq place p q) path w e =
        draws_then (taken (by_paths c) bodies (path ++ Part 0 ∷ []) w e p tt) _ (taken pick bodies' (path ++ Part 0 ∷ []) w e p) _ (draws_taken p (path ++ Part 0 ∷ []) w e)
        (λ u. draws_if (consistent u) _ _ _ _
        (draws_then (taken (by_paths c) bodies (path ++ Part 1 ∷ []) (fired w u) e q tt) _ (taken pick bodies' (path ++ Part 1 ∷ []) (fired w u) e q) _ (draws_taken q (path ++ Part 1 ∷ []) (fired w u) e) (λ v. draws_none (override u v) _ (λ rest. refl)))
        (draws_none u _ (λ rest. refl)))
    draws_taken (If place g p q) path w e =
        draws_evaluated (val w e g) _ _ (λ v. draws_branch v _ _ _ _ _ _ (draws_taken p (path ++ Part 0 ∷ []) w e) (draws_taken q (path ++ Part 1 ∷ []) w e) tt)
    draws_taken (Let place x t p) path w e = draws_evaluated (val w e t) _ _ (λ v. draws_taken p (path ++ Bound (v ∷ []) ∷ []) w (put x (Const v) e))
    draws_taken (Forall place bs g p) path w e =
        draws_each _ _ (λ vs. draws_evaluated (val w (put_tuple bs vs e) g) _ _ (λ v. draws_branch v _ _ _ _ _ _ (draws_taken p (path ++ Bound vs ∷ []) w (put_tuple bs vs e)) (draws_none set.empty _ (λ rest. refl)) tt))
        (tuples_of w.machine.signature bs) set.empty
    draws_taken (Choose place bs g p q) path w e =
        draws_then (candidates place (λ vs. val w (put_tuple bs vs e) g) (tuples_of w.machine.signature bs) [] tt) _ _ _ (draws_candidates place (λ vs. val w (put_tuple bs vs e) g) (tuples_of w.machine.signature bs) [])
        (λ found. draws_chosen found _ _ _ _
        (draws_then (by_paths c path place found tt) _ (pick path place found) _ (picks path place found) (λ vs. draws_taken p (path ++ Bound vs ∷ []) w (put_tuple bs vs e)))
        (draws_taken q (path ++ Part 1 ∷ []) w e))
    draws_taken (Call place f ts) path w e = drawn f (path ++ Called f ∷ []) w e ts

    pub draws_all : (rs : Rules) (path : Path) (n : ℕ) (w : World) (e : Places) (u : UpdateSet) → Draws (taken_all (by_paths c) bodies path n w e rs u tt) (taken_all pick bodies' path n w e rs u)
    draws_all none path n w e u = draws_none u _ (λ rest. refl)
    draws_all (more r rs) path n w e u =
        draws_then (taken (by_paths c) bodies (path ++ Part n ∷ []) w e r tt) _ (taken pick bodies' (path ++ Part n ∷ []) w e r) _ (draws_taken r (path ++ Part n ∷ []) w e) (λ v. draws_all rs path (suc n) w e (set.union u v))

draws_bodies : (c : Choosing) (pick : Pick (List ℕ)) (picks : (path : Path) (place : Place) (found : List (List Value)) → Draws (by_paths c path place found tt) (pick path place found)) (n : ℕ) (f : ℕ) (path : Path) (w : World) (e : Places) (ts : Trees) → Draws (bodies_within (by_paths c) n f path w e ts tt) (bodies_within pick n f path w e ts)
draws_bodies c pick picks zero f path w e ts = draws_none set.empty _ (λ rest. refl)
draws_bodies c pick picks (suc n) f path w e ts = go (slice_get w.machine.rules f) (draws_bodies c pick picks n)
  where
    go : (o : Option Macro) → ((f : ℕ) (path : Path) (w : World) (e : Places) (ts : Trees) → Draws (bodies_within (by_paths c) n f path w e ts tt) (bodies_within pick n f path w e ts))
        → Draws (body_taken (by_paths c) (bodies_within (by_paths c) n) path w e o ts tt) (body_taken pick (bodies_within pick n) path w e o ts)
    go None inner = draws_none set.empty _ (λ rest. refl)
    go (Some macro) inner = draws_taken c pick picks (bodies_within (by_paths c) n) (bodies_within pick n) inner macro.body path w (stand_for macro.parameters e ts)

-- what a rule gives by paths, it gives by words
pub outcome_draws : (c : Choosing) (pick : Pick (List ℕ)) (picks : (path : Path) (place : Place) (found : List (List Value)) → Draws (by_paths c path place found tt) (pick path place found)) (w : World) (r : Rule) → Draws (outcome (by_paths c) w r tt) (outcome pick w r)
outcome_draws c pick picks w r = draws_taken c pick picks (bodies_within (by_paths c) 32) (bodies_within pick 32) (draws_bodies c pick picks 32) r [] w nowhere

-- where some choices at paths give a set, some words do
pub words_for : (w : World) (r : Rule) (u : UpdateSet) → GivesByPaths w r u → GivesByWords w r u
words_for w r u p = (let k = subst (λ (o : Attempt (Unit {0}) UpdateSet). Draws o (outcome by_words w r)) p.gives (outcome_draws p.choosing by_words (draws_pick p.choosing) w r) in record { words = k.0; gives = k.1 })

-- and some small words do
draws_small : (c : Choosing) (path : Path) (place : Place) (found : List (List Value)) → Draws (by_paths c path place found tt) (by_small_words path place found)
draws_small c path place found = go (c path)
  where
    go : (o : Option (List Value)) → Draws (candidate place found o) (by_small_words path place found)
    go None = tt
    go (Some tuple) =
        elim (list_any (same_all tuple) found) as (λ (b : Truth). list_any (same_all tuple) found ≡ b → Draws (if b then Yields tuple tt else Faults (stop.Choice place) tt) (by_small_words path place found)) [
          | true ↦ λ is.
              (let p = at_place tuple found is in
              let below : nat_lt p.0 (length found) ≡ true = grind (arith, nat_tests, p.1) in (
                p.0 ∷ [],
                λ rest. ap (λ (b : Truth). if b then Yields (slice_index_or found p.0 []) rest else Faults (stop.Choice place) rest) below ∙ ap (λ (vs : List Value). Yields vs rest) p.2,
              ))
          | false ↦ λ is. tt
        ] refl

pub small_words_for : (w : World) (r : Rule) (u : UpdateSet) → GivesByPaths w r u → GivesBySmallWords w r u
small_words_for w r u p =
    (let k = subst (λ (o : Attempt (Unit {0}) UpdateSet). Draws o (outcome by_small_words w r)) p.gives (outcome_draws p.choosing by_small_words (draws_small p.choosing) w r) in record { words = k.0; gives = k.1 })
