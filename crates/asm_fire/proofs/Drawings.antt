-- The words that a rule draws for choices at paths are those under which it gives the same set.
use Rattle.std.proofs.Common.{◌≡◌, ℕ, zero, suc, ◌<◌, ◌++◌, ◌||◌, List, [], ◌∷◌, Option, Some, None, Bool as Truth, true, false, if◌then◌else◌, slice_get, slice_index_or, length, nat_lt, refl, ap, sym, ◌∙◌, subst, arith, append_assoc, true≢false}
use Rattle.std.specs.Prelude.{⊤}
use Rattle.std.specs.Option.{option_map}
use Rattle.std.specs.List.{list_any}
use Rattle.std.proofs.lemmas.List.{append-nil}
use Rattle.std.proofs.lemmas.Bool.Decides.{nat_tests}
use Rattle.std.specs.FinSet as set
use Rattle.asm_source.specs.declared.sources.Place.{Place}
use Rattle.asm_domain.specs.declared.value.Value.{Value}
use Rattle.asm_domain.specs.declared.value.Value.TheVariants.{Undef, Bool, Int, Elem}
use Rattle.asm_sign.specs.declared.function.Function.{Function}
use Rattle.asm_node.specs.declared.stop.Stop.{Stop}
use Rattle.asm_node.specs.declared.stop.Stop.TheVariants as stop
use Rattle.asm_node.specs.declared.path.Step.TheVariants.{Part, Called, Bound}
use Rattle.asm_node.specs.Tree.{Trees, Const}
use Rattle.asm_node.specs.RuleTree.{Rule, Rules, Skip, Update, Par, Seq, If, Let, Forall, Choose, Call, none, more}
use Rattle.asm_node.specs.Machine.{Macro, tuples_of}
use Rattle.asm_node.specs.Values.{same_all, is_undef, is_element}
use Rattle.asm_node.specs.Term.{World, Outcome, Gives, Needs, branch, val, vals, Places, put, put_tuple, nowhere}
use Rattle.asm_node.specs.UpdateSet.{UpdateSet, consistent, override, one}
use Rattle.asm_node.specs.Taking.{Attempt, Yields, Faults, Path, and_then, evaluated, valued, updated, update, each, candidates, chosen, taken, taken_all, body_taken, bodies_within, outcome, stand_for, fired, by_paths, candidate, Choosing}
use Rattle.asm_node.proofs.Sameness.{same_all_is}
use Rattle.asm_laws.specs.Choosing.{by_small_words}
use Rattle.asm_fire.specs.Drawing.{place_among, noted, drawn, by_drawing}

-- the answer is also given where words are drawn, and where these very words stand first, which are then taken
abbrev pub Tells : {A : Type 0} → Attempt (Unit {0}) A → (List ℕ → Attempt (List ℕ) A) → (List ℕ → Attempt (List ℕ) A) → Type 0
Tells (Yields a t) D W = (words : List ℕ) × ((before : List ℕ) → D before ≡ Yields a (before ++ words)) × ((rest : List ℕ) → W (words ++ rest) ≡ Yields a rest)
Tells (Faults e t) D W = ⊤

tells_none : {A : Type 0} (a : A) (D W : List ℕ → Attempt (List ℕ) A) → ((before : List ℕ) → D before ≡ Yields a before) → ((rest : List ℕ) → W rest ≡ Yields a rest) → Tells (Yields a tt) D W
tells_none a D W d w = ([], λ before. d before ∙ ap (λ (ws : List ℕ). Yields a ws) (sym (append-nil before)), w)

tells_then : {A B : Type 0} (o : Attempt (Unit {0}) A) (f : A → Unit {0} → Attempt (Unit {0}) B) (D W : List ℕ → Attempt (List ℕ) A) (d w : A → List ℕ → Attempt (List ℕ) B)
    → Tells o D W → ((a : A) → Tells (f a tt) (d a) (w a)) → Tells (and_then o f) (λ s. and_then (D s) d) (λ s. and_then (W s) w)
tells_then {A} {B} (Yields a t) f D W d w h next = go (f a t) (next a)
  where
    go : (o : Attempt (Unit {0}) B) → Tells o (d a) (w a) → Tells o (λ s. and_then (D s) d) (λ s. and_then (W s) w)
    go (Faults e t) k = tt
    go (Yields b t) k = (
      h.0 ++ k.0,
      λ before. ap (λ (o : Attempt (List ℕ) A). and_then o d) (h.1 before) ∙ (k.1 (before ++ h.0) ∙ ap (λ (ws : List ℕ). Yields b ws) (append_assoc before h.0 k.0)),
      λ rest. ap (λ (ws : List ℕ). and_then (W ws) w) (append_assoc h.0 k.0 rest) ∙ (ap (λ (o : Attempt (List ℕ) A). and_then o w) (h.2 (k.0 ++ rest)) ∙ k.2 rest),
    )
tells_then (Faults e t) f D W d w h next = tt

tells_evaluated : {A B : Type 0} (o : Outcome A) (f : A → Attempt (Unit {0}) B) (d w : A → List ℕ → Attempt (List ℕ) B) → ((a : A) → Tells (f a) (d a) (w a)) → Tells (evaluated o tt f) (λ s. evaluated o s (λ a. d a s)) (λ s. evaluated o s (λ a. w a s))
tells_evaluated (Gives a) f d w next = next a
tells_evaluated (Needs l) f d w next = tt

tells_branch : {A : Type 0} (v : Value) (o p q : Attempt (Unit {0}) A) (D E F W X Y : List ℕ → Attempt (List ℕ) A) → Tells o D W → Tells p E X → Tells q F Y → Tells (branch v o p q) (λ s. branch v (D s) (E s) (F s)) (λ s. branch v (W s) (X s) (Y s))
tells_branch (Bool true) o p q D E F W X Y h k l = h
tells_branch (Bool false) o p q D E F W X Y h k l = k
tells_branch Undef o p q D E F W X Y h k l = l
tells_branch (Int z) o p q D E F W X Y h k l = l
tells_branch (Elem d n) o p q D E F W X Y h k l = l

tells_if : {A : Type 0} (b : Truth) (o p : Attempt (Unit {0}) A) (D E W X : List ℕ → Attempt (List ℕ) A) → Tells o D W → Tells p E X → Tells (if b then o else p) (λ s. if b then D s else E s) (λ s. if b then W s else X s)
tells_if true o p D E W X h k = h
tells_if false o p D E W X h k = k

tells_each : (f : List Value → Unit {0} → Attempt (Unit {0}) UpdateSet) (d w : List Value → List ℕ → Attempt (List ℕ) UpdateSet) → ((vs : List Value) → Tells (f vs tt) (d vs) (w vs))
    → (tuples : List (List Value)) (u : UpdateSet) → Tells (each f tuples u tt) (each d tuples u) (each w tuples u)
tells_each f d w h [] u = tells_none u _ _ (λ before. refl) (λ rest. refl)
tells_each f d w h (vs ∷ tuples) u = tells_then (f vs tt) _ (d vs) (w vs) _ _ (h vs) (λ v. tells_each f d w h tuples (set.union u v))

tells_candidates : (place : Place) (guard : List Value → Outcome Value) (tuples found : List (List Value)) → Tells (candidates place guard tuples found tt) (candidates place guard tuples found) (candidates place guard tuples found)
tells_candidates place guard [] found = tells_none found _ _ (λ before. refl) (λ rest. refl)
tells_candidates place guard (vs ∷ tuples) found =
    tells_evaluated (guard vs) _ _ _ (λ v. tells_branch v _ _ _ (candidates place guard tuples (found ++ vs ∷ [])) (candidates place guard tuples found) _ (candidates place guard tuples (found ++ vs ∷ [])) (candidates place guard tuples found) _
    (tells_candidates place guard tuples (found ++ vs ∷ [])) (tells_candidates place guard tuples found) tt)

tells_chosen : (found : List (List Value)) (o p : Attempt (Unit {0}) UpdateSet) (D E W X : List ℕ → Attempt (List ℕ) UpdateSet) → Tells o D W → Tells p E X → Tells (chosen found o p) (λ s. chosen found (D s) (E s)) (λ s. chosen found (W s) (X s))
tells_chosen [] o p D E W X h k = k
tells_chosen (vs ∷ found) o p D E W X h k = h

-- a candidate has a place among all
placed : (tuple : List Value) (found : List (List Value)) → list_any (same_all tuple) found ≡ true → (k : ℕ) × (place_among tuple found ≡ Some k) × (k < length found) × (slice_index_or found k [] ≡ tuple)
placed tuple [] is = absurd (true≢false (sym is))
placed tuple (vs ∷ found) is =
    elim (same_all tuple vs) as (λ (b : Truth). same_all tuple vs ≡ b → (b || list_any (same_all tuple) found) ≡ true → (k : ℕ) × ((if b then Some 0 else option_map suc (place_among tuple found)) ≡ Some k) × (k < length (vs ∷ found)) × (slice_index_or (vs ∷ found) k [] ≡ tuple)) [
      | true ↦ λ e h. (0, refl, omega arith, sym (same_all_is tuple vs e))
      | false ↦ λ e h. (let p = placed tuple found h in (suc p.0, ap (option_map suc) p.1, omega (arith, p.2), p.3))
    ] refl is

tells_pick : (c : Choosing) (path : Path) (place : Place) (found : List (List Value)) → Tells (by_paths c path place found tt) (by_drawing c path place found) (by_small_words path place found)
tells_pick c path place found = go (c path)
  where
    go : (o : Option (List Value)) → Tells (candidate place found o) (drawn place found o) (by_small_words path place found)
    go None = tt
    go (Some tuple) =
        elim (list_any (same_all tuple) found) as (λ (b : Truth). list_any (same_all tuple) found ≡ b → Tells (if b then Yields tuple tt else Faults (stop.Choice place) tt) (drawn place found (Some tuple)) (by_small_words path place found)) [
          | true ↦ λ is.
              (let p = placed tuple found is in
              let below : nat_lt p.0 (length found) ≡ true = grind (arith, nat_tests, p.2) in (
                p.0 ∷ [],
                λ before. ap (λ (k : Option ℕ). noted place found k before) p.1 ∙ ap (λ (vs : List Value). Yields vs (before ++ p.0 ∷ [])) p.3,
                λ rest. ap (λ (b : Truth). if b then Yields (slice_index_or found p.0 []) rest else Faults (stop.Choice place) rest) below ∙ ap (λ (vs : List Value). Yields vs rest) p.3,
              ))
          | false ↦ λ is. tt
        ] refl

tells_valued : (w : World) (place : Place) (codomain l : ℕ) (v : Value) → Tells (valued w place codomain l v tt) (valued w place codomain l v) (valued w place codomain l v)
tells_valued w place codomain l v =
    tells_if (is_undef v || is_element w.machine.signature.domains codomain v) (Yields (one l v) tt) (Faults (stop.BadValue place l v) tt) (λ s. Yields (one l v) s) (λ s. Faults (stop.BadValue place l v) s) (λ s. Yields (one l v) s) (λ s. Faults (stop.BadValue place l v) s)
    (tells_none (one l v) _ _ (λ before. refl) (λ rest. refl)) tt

tells_updated : (w : World) (place : Place) (codomain : ℕ) (slot : Option ℕ) (value : Outcome Value) → Tells (updated w place codomain slot value tt) (updated w place codomain slot value) (updated w place codomain slot value)
tells_updated w place codomain None value = tt
tells_updated w place codomain (Some l) value = tells_evaluated value _ _ _ (tells_valued w place codomain l)

tells_update : (w : World) (place : Place) (f : ℕ) (function : Option Function) (vs : List Value) (value : Outcome Value) → Tells (update w place f function vs value tt) (update w place f function vs value) (update w place f function vs value)
tells_update w place f None vs value = tt
tells_update w place f (Some function) vs value = tells_updated w place function.codomain _ value

module _ (c : Choosing) where
  -- what macro rules give by paths, with the words that are drawn
  abbrev AllTell : ℕ → Type 0
  AllTell n = (f : ℕ) (path : Path) (w : World) (e : Places) (ts : Trees) → Tells (bodies_within (by_paths c) n f path w e ts tt) (bodies_within (by_drawing c) n f path w e ts) (bodies_within by_small_words n f path w e ts)

  module _ (n : ℕ) (told : AllTell n) where
    mutual
      tells_taken : (r : Rule) (path : Path) (w : World) (e : Places) → Tells (taken (by_paths c) (bodies_within (by_paths c) n) path w e r tt) (taken (by_drawing c) (bodies_within (by_drawing c) n) path w e r) (taken by_small_words (bodies_within by_small_words n) path w e r)
      tells_taken (Skip place) path w e = tells_none set.empty _ _ (λ before. refl) (λ rest. refl)
      tells_taken (Update place f ts t) path w e = tells_evaluated (vals w e ts) _ _ _ (λ vs. tells_update w place f (slice_get w.machine.signature.functions f) vs (val w e t))
      tells_taken (Par place rs) path w e = tells_all rs path 0 w e set.empty
      tells_taken (Seq place p q) path w e =
          tells_then (taken (by_paths c) (bodies_within (by_paths c) n) (path ++ Part 0 ∷ []) w e p tt) _ (taken (by_drawing c) (bodies_within (by_drawing c) n) (path ++ Part 0 ∷ []) w e p) (taken by_small_words (bodies_within by_small_words n) (path ++ Part 0 ∷ []) w e p) _ _ (tells_taken p (path ++ Part 0 ∷ []) w e)
          (λ u. tells_if (consistent u) _ _ _ _ _ _
          (tells_then (taken (by_paths c) (bodies_within (by_paths c) n) (path ++ Part 1 ∷ []) (fired w u) e q tt) _ (taken (by_drawing c) (bodies_within (by_drawing c) n) (path ++ Part 1 ∷ []) (fired w u) e q) (taken by_small_words (bodies_within by_small_words n) (path ++ Part 1 ∷ []) (fired w u) e q) _ _ (tells_taken q (path ++ Part 1 ∷ []) (fired w u) e)
          (λ v. tells_none (override u v) _ _ (λ before. refl) (λ rest. refl)))
          (tells_none u _ _ (λ before. refl) (λ rest. refl)))
      tells_taken (If place g p q) path w e =
          tells_evaluated (val w e g) _ _ _ (λ v. tells_branch v _ _ _ _ _ _ _ _ _ (tells_taken p (path ++ Part 0 ∷ []) w e) (tells_taken q (path ++ Part 1 ∷ []) w e) tt)
      tells_taken (Let place x t p) path w e = tells_evaluated (val w e t) _ _ _ (λ v. tells_taken p (path ++ Bound (v ∷ []) ∷ []) w (put x (Const v) e))
      tells_taken (Forall place bs g p) path w e =
          tells_each _ _ _ (λ vs. tells_evaluated (val w (put_tuple bs vs e) g) _ _ _ (λ v. tells_branch v _ _ _ _ _ _ _ _ _ (tells_taken p (path ++ Bound vs ∷ []) w (put_tuple bs vs e)) (tells_none set.empty _ _ (λ before. refl) (λ rest. refl)) tt))
          (tuples_of w.machine.signature bs) set.empty
      tells_taken (Choose place bs g p q) path w e =
          tells_then (candidates place (λ vs. val w (put_tuple bs vs e) g) (tuples_of w.machine.signature bs) [] tt) _ _ _ _ _ (tells_candidates place (λ vs. val w (put_tuple bs vs e) g) (tuples_of w.machine.signature bs) [])
          (λ found. tells_chosen found _ _ _ _ _ _
          (tells_then (by_paths c path place found tt) _ (by_drawing c path place found) (by_small_words path place found) _ _ (tells_pick c path place found) (λ vs. tells_taken p (path ++ Bound vs ∷ []) w (put_tuple bs vs e)))
          (tells_taken q (path ++ Part 1 ∷ []) w e))
      tells_taken (Call place f ts) path w e = told f (path ++ Called f ∷ []) w e ts

      tells_all : (rs : Rules) (path : Path) (k : ℕ) (w : World) (e : Places) (u : UpdateSet)
          → Tells (taken_all (by_paths c) (bodies_within (by_paths c) n) path k w e rs u tt) (taken_all (by_drawing c) (bodies_within (by_drawing c) n) path k w e rs u) (taken_all by_small_words (bodies_within by_small_words n) path k w e rs u)
      tells_all none path k w e u = tells_none u _ _ (λ before. refl) (λ rest. refl)
      tells_all (more r rs) path k w e u =
          tells_then (taken (by_paths c) (bodies_within (by_paths c) n) (path ++ Part k ∷ []) w e r tt) _ (taken (by_drawing c) (bodies_within (by_drawing c) n) (path ++ Part k ∷ []) w e r) (taken by_small_words (bodies_within by_small_words n) (path ++ Part k ∷ []) w e r) _ _ (tells_taken r (path ++ Part k ∷ []) w e) (λ v. tells_all rs path (suc k) w e (set.union u v))

  tells_bodies : (n : ℕ) → AllTell n
  tells_bodies zero f path w e ts = tells_none set.empty _ _ (λ before. refl) (λ rest. refl)
  tells_bodies (suc n) f path w e ts = go (slice_get w.machine.rules f) (tells_bodies n)
    where
      go : (o : Option Macro) → AllTell n → Tells (body_taken (by_paths c) (bodies_within (by_paths c) n) path w e o ts tt) (body_taken (by_drawing c) (bodies_within (by_drawing c) n) path w e o ts) (body_taken by_small_words (bodies_within by_small_words n) path w e o ts)
      go None inner = tells_none set.empty _ _ (λ before. refl) (λ rest. refl)
      go (Some macro) inner = tells_taken n inner macro.body path w (stand_for macro.parameters e ts)

  outcome_tells : (w : World) (r : Rule) → Tells (outcome (by_paths c) w r tt) (outcome (by_drawing c) w r) (outcome by_small_words w r)
  outcome_tells w r = tells_taken 32 (tells_bodies 32) r [] w nowhere

  -- what a rule gives under choices at paths, it gives with some words drawn, and under these words, each of which is below
  -- the number of its candidates
  pub words_drawn : (w : World) (r : Rule) (u : UpdateSet) → outcome (by_paths c) w r tt ≡ Yields u tt
      → (words : List ℕ) × (outcome (by_drawing c) w r [] ≡ Yields u words) × (outcome by_small_words w r words ≡ Yields u [])
  words_drawn w r u is =
      let k = subst (λ (o : Attempt (Unit {0}) UpdateSet). Tells o (outcome (by_drawing c) w r) (outcome by_small_words w r)) is (outcome_tells w r) in
      (k.0, k.1 [], ap (outcome by_small_words w r) (sym (append-nil k.0)) ∙ k.2 [])

abbrev words_left : Attempt (List ℕ) UpdateSet → List ℕ
words_left (Yields u words) = words
words_left (Faults e words) = words

-- the words that are drawn are those under which the rule gives the same set
pub serving : (c : Choosing) (w : World) (r : Rule) (u v : UpdateSet) (words : List ℕ) → outcome (by_paths c) w r tt ≡ Yields u tt → outcome (by_drawing c) w r [] ≡ Yields v words
    → (outcome (by_drawing c) w r [] ≡ Yields u words) × (outcome by_small_words w r words ≡ Yields u [])
serving c w r u v words is given =
    let k = words_drawn c w r u is in
    let same : k.0 ≡ words = ap words_left (sym k.1 ∙ given) in
    (k.1 ∙ ap (λ (ws : List ℕ). Yields u ws) same, subst (λ (ws : List ℕ). outcome by_small_words w r ws ≡ Yields u []) same k.2)

abbrev IsFault : Attempt (List ℕ) UpdateSet → Type 0
IsFault (Yields u words) = ⊥
IsFault (Faults e words) = ⊤

-- where a rule gives a set under choices at paths, drawing meets no fault
pub no_fault : (c : Choosing) (w : World) (r : Rule) (u : UpdateSet) (e : Stop) (words : List ℕ) → outcome (by_paths c) w r tt ≡ Yields u tt → outcome (by_drawing c) w r [] ≡ Faults e words → ⊥
no_fault c w r u e words is faults = subst IsFault (sym faults ∙ (words_drawn c w r u is).1) tt
