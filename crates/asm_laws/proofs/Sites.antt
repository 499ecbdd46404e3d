-- What a rule gives depends on the choices at finitely many paths.
use Rattle.std.proofs.Common.{◌≡◌, ℕ, zero, suc, ◌++◌, List, [], ◌∷◌, Option, Some, None, Bool as Truth, true, false, if◌then◌else◌, slice_get, refl, ap, ◌∙◌, subst}
use Rattle.std.specs.Prelude.{⊤}
use Rattle.std.specs.List.{list_any}
use Rattle.std.specs.FinSet as set
use Rattle.asm_source.specs.declared.sources.Place.{Place}
use Rattle.asm_domain.specs.declared.value.Value.{Value}
use Rattle.asm_domain.specs.declared.value.Value.TheVariants.{Undef, Bool, Int, Elem}
use Rattle.asm_node.specs.declared.stop.Stop.TheVariants as stop
use Rattle.asm_node.specs.declared.path.Step.TheVariants.{Part, Called, Bound}
use Rattle.asm_node.specs.Tree.{Trees, Const}
use Rattle.asm_node.specs.RuleTree.{Rule, Rules, Skip, Update, Par, Seq, If, Let, Forall, Choose, Call, none, more}
use Rattle.asm_node.specs.Values.{same_all}
use Rattle.asm_node.specs.Machine.{Macro, tuples_of}
use Rattle.asm_node.specs.Term.{World, Outcome, Gives, Needs, branch, val, Places, put, put_tuple, nowhere}
use Rattle.asm_node.specs.UpdateSet.{UpdateSet, consistent, override}
use Rattle.asm_node.specs.Taking.{Attempt, Yields, Faults, Bodies, Path, and_then, evaluated, each, candidates, chosen, taken, taken_all, body_taken, bodies_within, outcome, stand_for, fired, by_paths, candidate, Choosing}
use Rattle.asm_laws.specs.Sites.{AreChosen, ChoosesAlike, AreSites}

module _ (c : Choosing) where
  -- the answer is also given under all that choose the same at some paths, at which something is chosen
  abbrev pub Meets : {A : Type 0} → Attempt (Unit {0}) A → (Choosing → Attempt (Unit {0}) A) → Type 0
  Meets (Yields a t) F = (paths : List Path) × AreChosen c paths × ((other : Choosing) → ChoosesAlike c other paths → F other ≡ Yields a tt)
  Meets (Faults e t) F = ⊤

  chosen_both : (ps qs : List Path) → AreChosen c ps → AreChosen c qs → AreChosen c (ps ++ qs)
  chosen_both [] qs h k = k
  chosen_both (p ∷ ps) qs h k = (h.0, chosen_both ps qs h.1 k)

  alike_first : (other : Choosing) (ps qs : List Path) → ChoosesAlike c other (ps ++ qs) → ChoosesAlike c other ps
  alike_first other [] qs h = tt
  alike_first other (p ∷ ps) qs h = (h.0, alike_first other ps qs h.1)

  alike_second : (other : Choosing) (ps qs : List Path) → ChoosesAlike c other (ps ++ qs) → ChoosesAlike c other qs
  alike_second other [] qs h = h
  alike_second other (p ∷ ps) qs h = alike_second other ps qs h.1

  meets_none : {A : Type 0} (a : A) (F : Choosing → Attempt (Unit {0}) A) → ((other : Choosing) → F other ≡ Yields a tt) → Meets (Yields a tt) F
  meets_none a F h = ([], tt, λ other alike. h other)

  -- an attempt that chooses nothing
  meets_same : {A : Type 0} (o : Attempt (Unit {0}) A) → Meets o (λ other. o)
  meets_same (Yields a t) = meets_none a (λ other. Yields a t) (λ other. refl)
  meets_same (Faults e t) = tt

  meets_then : {A B : Type 0} (o : Attempt (Unit {0}) A) (f : A → Unit {0} → Attempt (Unit {0}) B) (F : Choosing → Attempt (Unit {0}) A) (g : A → Choosing → Attempt (Unit {0}) B)
      → Meets o F → ((a : A) → Meets (f a tt) (g a)) → Meets (and_then o f) (λ other. and_then (F other) (λ a t. g a other))
  meets_then {A} {B} (Yields a t) f F g h next = go (f a t) (next a)
    where
      go : (o : Attempt (Unit {0}) B) → Meets o (g a) → Meets o (λ other. and_then (F other) (λ a t. g a other))
      go (Faults e t) k = tt
      go (Yields b t) k = (
        h.0 ++ k.0,
        chosen_both h.0 k.0 h.1 k.1,
        λ other alike. ap (λ (o : Attempt (Unit {0}) A). and_then o (λ a t. g a other)) (h.2 other (alike_first other h.0 k.0 alike)) ∙ k.2 other (alike_second other h.0 k.0 alike),
      )
  meets_then (Faults e t) f F g h next = tt

  meets_evaluated : {A B : Type 0} (o : Outcome A) (f : A → Attempt (Unit {0}) B) (g : A → Choosing → Attempt (Unit {0}) B) → ((a : A) → Meets (f a) (g a)) → Meets (evaluated o tt f) (λ other. evaluated o tt (λ a. g a other))
  meets_evaluated (Gives a) f g next = next a
  meets_evaluated (Needs l) f g next = tt

  meets_branch : {A : Type 0} (v : Value) (o p q : Attempt (Unit {0}) A) (F G : Choosing → Attempt (Unit {0}) A) → Meets o F → Meets p G → Meets (branch v o p q) (λ other. branch v (F other) (G other) q)
  meets_branch (Bool true) o p q F G h k = h
  meets_branch (Bool false) o p q F G h k = k
  meets_branch Undef o p q F G h k = meets_same q
  meets_branch (Int z) o p q F G h k = meets_same q
  meets_branch (Elem d n) o p q F G h k = meets_same q

  meets_if : {A : Type 0} (b : Truth) (o p : Attempt (Unit {0}) A) (F : Choosing → Attempt (Unit {0}) A) → Meets o F → Meets (if b then o else p) (λ other. if b then F other else p)
  meets_if true o p F h = h
  meets_if false o p F h = meets_same p

  meets_each : (f : List Value → Unit {0} → Attempt (Unit {0}) UpdateSet) (g : List Value → Choosing → Attempt (Unit {0}) UpdateSet) → ((vs : List Value) → Meets (f vs tt) (g vs))
      → (tuples : List (List Value)) (u : UpdateSet) → Meets (each f tuples u tt) (λ other. each (λ vs t. g vs other) tuples u tt)
  meets_each f g h [] u = meets_none u _ (λ other. refl)
  meets_each f g h (vs ∷ tuples) u = meets_then (f vs tt) _ (g vs) _ (h vs) (λ v. meets_each f g h tuples (set.union u v))

  meets_chosen : (found : List (List Value)) (o p : Attempt (Unit {0}) UpdateSet) (F G : Choosing → Attempt (Unit {0}) UpdateSet) → Meets o F → Meets p G → Meets (chosen found o p) (λ other. chosen found (F other) (G other))
  meets_chosen [] o p F G h k = k
  meets_chosen (vs ∷ found) o p F G h k = h

  meets_pick : (path : Path) (place : Place) (found : List (List Value)) → Meets (by_paths c path place found tt) (λ other. by_paths other path place found tt)
  meets_pick path place found = go (c path) refl
    where
      go : (o : Option (List Value)) → c path ≡ o → Meets (candidate place found o) (λ other. candidate place found (other path))
      go None is = tt
      go (Some tuple) is =
          elim (list_any (same_all tuple) found) as (λ (b : Truth). list_any (same_all tuple) found ≡ b → Meets (if b then Yields tuple tt else Faults (stop.Choice place) tt) (λ other. candidate place found (other path))) [
            | true ↦ λ among. (
              path ∷ [],
              (rw is refl, tt),
              λ other alike. ap (candidate place found) (alike.0 ∙ is) ∙ ap (λ (b : Truth). if b then Yields tuple tt else Faults (stop.Choice place) tt) among,
            )
            | false ↦ λ among. tt
          ] refl

  -- what macro rules give under other choices
  abbrev pub AnyBodies : Type 0
  AnyBodies = Choosing → Bodies (Unit {0})

  module _ (bodies : Bodies (Unit {0})) (bodies' : AnyBodies) (met : (f : ℕ) (path : Path) (w : World) (e : Places) (ts : Trees) → Meets (bodies f path w e ts tt) (λ other. bodies' other f path w e ts tt)) where
    mutual
      pub meets_taken : (r : Rule) (path : Path) (w : World) (e : Places) → Meets (taken (by_paths c) bodies path w e r tt) (λ other. taken (by_paths other) (bodies' other) path w e r tt)
      meets_taken (Skip place) path w e = meets_none set.empty _ (λ other. refl)
      meets_taken (Update place f ts t) path w e = meets_same (taken (by_paths c) bodies path w e (Update place f ts t) tt)
      meets_taken (Par place rs) path w e = meets_all rs path 0 w e set.empty
      meets_taken (Seq place p q) path w e =
          meets_then (taken (by_paths c) bodies (path ++ Part 0 ∷ []) w e p tt) _ (λ other. taken (by_paths other) (bodies' other) (path ++ Part 0 ∷ []) w e p tt) _ (meets_taken p (path ++ Part 0 ∷ []) w e)
          (λ u. meets_if (consistent u) _ _ _
          (meets_then (taken (by_paths c) bodies (path ++ Part 1 ∷ []) (fired w u) e q tt) _ (λ other. taken (by_paths other) (bodies' other) (path ++ Part 1 ∷ []) (fired w u) e q tt) _ (meets_taken q (path ++ Part 1 ∷ []) (fired w u) e)
          (λ v. meets_none (override u v) _ (λ other. refl))))
      meets_taken (If place g p q) path w e =
          meets_evaluated (val w e g) _ _ (λ v. meets_branch v _ _ _ _ _ (meets_taken p (path ++ Part 0 ∷ []) w e) (meets_taken q (path ++ Part 1 ∷ []) w e))
      meets_taken (Let place x t p) path w e = meets_evaluated (val w e t) _ _ (λ v. meets_taken p (path ++ Bound (v ∷ []) ∷ []) w (put x (Const v) e))
      meets_taken (Forall place bs g p) path w e =
          meets_each _ _ (λ vs. meets_evaluated (val w (put_tuple bs vs e) g) _ _ (λ v. meets_branch v _ _ _ _ _ (meets_taken p (path ++ Bound vs ∷ []) w (put_tuple bs vs e)) (meets_none set.empty _ (λ other. refl))))
          (tuples_of w.machine.signature bs) set.empty
      meets_taken (Choose place bs g p q) path w e =
          meets_then (candidates place (λ vs. val w (put_tuple bs vs e) g) (tuples_of w.machine.signature bs) [] tt) _ (λ other. candidates place (λ vs. val w (put_tuple bs vs e) g) (tuples_of w.machine.signature bs) [] tt) _
          (meets_same (candidates place (λ vs. val w (put_tuple bs vs e) g) (tuples_of w.machine.signature bs) [] tt))
          (λ found. meets_chosen found _ _ _ _
          (meets_then (by_paths c path place found tt) _ (λ other. by_paths other path place found tt) _ (meets_pick path place found) (λ vs. meets_taken p (path ++ Bound vs ∷ []) w (put_tuple bs vs e)))
          (meets_taken q (path ++ Part 1 ∷ []) w e))
      meets_taken (Call place f ts) path w e = met f (path ++ Called f ∷ []) w e ts

      pub meets_all : (rs : Rules) (path : Path) (n : ℕ) (w : World) (e : Places) (u : UpdateSet) → Meets (taken_all (by_paths c) bodies path n w e rs u tt) (λ other. taken_all (by_paths other) (bodies' other) path n w e rs u tt)
      meets_all none path n w e u = meets_none u _ (λ other. refl)
      meets_all (more r rs) path n w e u =
          meets_then (taken (by_paths c) bodies (path ++ Part n ∷ []) w e r tt) _ (λ other. taken (by_paths other) (bodies' other) (path ++ Part n ∷ []) w e r tt) _ (meets_taken r (path ++ Part n ∷ []) w e) (λ v. meets_all rs path (suc n) w e (set.union u v))

  abbrev AllMeet : ℕ → Type 0
  AllMeet n = (f : ℕ) (path : Path) (w : World) (e : Places) (ts : Trees) → Meets (bodies_within (by_paths c) n f path w e ts tt) (λ other. bodies_within (by_paths other) n f path w e ts tt)

  meets_bodies : (n : ℕ) → AllMeet n
  meets_bodies zero f path w e ts = meets_none set.empty _ (λ other. refl)
  meets_bodies (suc n) f path w e ts = go (slice_get w.machine.rules f) (meets_bodies n)
    where
      go : (o : Option Macro) → AllMeet n → Meets (body_taken (by_paths c) (bodies_within (by_paths c) n) path w e o ts tt) (λ other. body_taken (by_paths other) (bodies_within (by_paths other) n) path w e o ts tt)
      go None inner = meets_none set.empty _ (λ other. refl)
      go (Some macro) inner = meets_taken (bodies_within (by_paths c) n) (λ other. bodies_within (by_paths other) n) inner macro.body path w (stand_for macro.parameters e ts)

  pub outcome_meets : (w : World) (r : Rule) → Meets (outcome (by_paths c) w r tt) (λ other. outcome (by_paths other) w r tt)
  outcome_meets w r = meets_taken (bodies_within (by_paths c) 32) (λ other. bodies_within (by_paths other) 32) (meets_bodies 32) r [] w nowhere

  -- a rule that gives a set has finitely many sites
  pub sites_of : (w : World) (r : Rule) (u : UpdateSet) → outcome (by_paths c) w r tt ≡ Yields u tt → (paths : List Path) × AreSites w r c u paths
  sites_of w r u is =
      (let k = subst (λ (o : Attempt (Unit {0}) UpdateSet). Meets o (λ other. outcome (by_paths other) w r tt)) is (outcome_meets w r) in (k.0, record { are_chosen = k.1; suffice = k.2 }))
