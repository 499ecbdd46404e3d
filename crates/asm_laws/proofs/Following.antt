-- Where one way to choose chooses, another chooses the same: then a rule gives the same.
use Rattle.std.proofs.Common.{◌≡◌, ℕ, zero, suc, ◌<◌, ◌%◌, ◌++◌, List, [], ◌∷◌, Option, Some, None, Bool as Truth, true, false, if◌then◌else◌, slice_get, slice_index_or, length, nat_lt, refl, ap, subst, arith}
use Rattle.std.specs.Prelude.{⊤}
use Rattle.std.specs.FinSet as set
use Rattle.std.proofs.Math.Nat.{mod-eq_of_lt}
use Rattle.std.proofs.lemmas.Bool.Decides.{nat_tests}
use Rattle.asm_source.specs.declared.sources.Place.{Place}
use Rattle.asm_domain.specs.declared.value.Value.{Value}
use Rattle.asm_domain.specs.declared.value.Value.TheVariants.{Undef, Bool, Int, Elem}
use Rattle.asm_node.specs.declared.stop.Stop.TheVariants as stop
use Rattle.asm_node.specs.declared.path.Step.TheVariants.{Part, Called, Bound}
use Rattle.asm_node.specs.Tree.{Trees, Const}
use Rattle.asm_node.specs.RuleTree.{Rule, Rules, Skip, Update, Par, Seq, If, Let, Forall, Choose, Call, none, more}
use Rattle.asm_node.specs.Machine.{Macro, tuples_of}
use Rattle.asm_node.specs.Term.{World, Outcome, Gives, Needs, branch, val, Places, put, put_tuple, nowhere}
use Rattle.asm_node.specs.UpdateSet.{UpdateSet, consistent}
use Rattle.asm_node.specs.Taking.{Attempt, Yields, Faults, Pick, Bodies, Path, and_then, evaluated, each, candidates, chosen, taken, taken_all, body_taken, bodies_within, outcome, stand_for, fired, by_words, by_paths, candidate, Choosing}
use Rattle.asm_laws.specs.Choosing.{by_small_words, GivesMore}

module _ {S : Type 0} where
  -- an answer is the other one's too
  abbrev pub Follows : {A : Type 0} → Attempt S A → Attempt S A → Type 0
  Follows (Yields a t) p = p ≡ Yields a t
  Follows (Faults e t) p = ⊤

  follows_same : {A : Type 0} (o : Attempt S A) → Follows o o
  follows_same (Yields a t) = refl
  follows_same (Faults e t) = tt

  pub answer_follows : {A : Type 0} (o p : Attempt S A) (a : A) (t : S) → o ≡ Yields a t → Follows o p → p ≡ Yields a t
  answer_follows o p a t is h = subst (λ (q : Attempt S _). Follows q p) is h

  follows_then : {A B : Type 0} (o p : Attempt S A) (f g : A → S → Attempt S B) → Follows o p → ((a : A) (t : S) → Follows (f a t) (g a t)) → Follows (and_then o f) (and_then p g)
  follows_then (Yields a t) p f g same next = rw same (next a t)
  follows_then (Faults e t) p f g same next = tt

  follows_evaluated : {A B : Type 0} (o : Outcome A) (t : S) (f g : A → Attempt S B) → ((a : A) → Follows (f a) (g a)) → Follows (evaluated o t f) (evaluated o t g)
  follows_evaluated (Gives a) t f g next = next a
  follows_evaluated (Needs l) t f g next = tt

  follows_branch : {A : Type 0} (v : Value) (o p q r e : Attempt S A) → Follows o p → Follows q r → Follows (branch v o q e) (branch v p r e)
  follows_branch (Bool true) o p q r e h k = h
  follows_branch (Bool false) o p q r e h k = k
  follows_branch Undef o p q r e h k = follows_same e
  follows_branch (Int z) o p q r e h k = follows_same e
  follows_branch (Elem d n) o p q r e h k = follows_same e

  follows_if : {A : Type 0} (b : Truth) (o p q : Attempt S A) → Follows o p → Follows (if b then o else q) (if b then p else q)
  follows_if true o p q h = h
  follows_if false o p q h = follows_same q

  follows_each : (f g : List Value → S → Attempt S UpdateSet) → ((vs : List Value) (t : S) → Follows (f vs t) (g vs t)) → (tuples : List (List Value)) (u : UpdateSet) (t : S) → Follows (each f tuples u t) (each g tuples u t)
  follows_each f g h [] u t = refl
  follows_each f g h (vs ∷ tuples) u t = follows_then (f vs t) (g vs t) _ _ (h vs t) (λ v t. follows_each f g h tuples (set.union u v) t)

  follows_chosen : (found : List (List Value)) (o p q r : Attempt S UpdateSet) → Follows o p → Follows q r → Follows (chosen found o q) (chosen found p r)
  follows_chosen [] o p q r h k = k
  follows_chosen (vs ∷ found) o p q r h k = h

  module _ (pick pick' : Pick S) (picks : (path : Path) (place : Place) (found : List (List Value)) (t : S) → Follows (pick path place found t) (pick' path place found t)) where
    abbrev Alike : Bodies S → Bodies S → Type 0
    Alike bodies bodies' = (f : ℕ) (path : Path) (w : World) (e : Places) (ts : Trees) (t : S) → Follows (bodies f path w e ts t) (bodies' f path w e ts t)

    module _ (bodies bodies' : Bodies S) (alike : Alike bodies bodies') where
      mutual
        pub follows_taken : (r : Rule) (path : Path) (w : World) (e : Places) (t : S) → Follows (taken pick bodies path w e r t) (taken pick' bodies' path w e r t)
        follows_taken (Skip place) path w e t = refl
        follows_taken (Update place f ts x) path w e t = follows_same (taken pick bodies path w e (Update place f ts x) t)
        follows_taken (Par place rs) path w e t = follows_all rs path 0 w e set.empty t
        follows_taken (Seq place p q) path w e t =
            follows_then (taken pick bodies (path ++ Part 0 ∷ []) w e p t) (taken pick' bodies' (path ++ Part 0 ∷ []) w e p t) _ _ (follows_taken p (path ++ Part 0 ∷ []) w e t)
            (λ u t. follows_if (consistent u) _ _ _
            (follows_then (taken pick bodies (path ++ Part 1 ∷ []) (fired w u) e q t) (taken pick' bodies' (path ++ Part 1 ∷ []) (fired w u) e q t) _ _ (follows_taken q (path ++ Part 1 ∷ []) (fired w u) e t) (λ v t. refl)))
        follows_taken (If place g p q) path w e t =
            follows_evaluated (val w e g) t _ _ (λ v. follows_branch v _ _ _ _ _ (follows_taken p (path ++ Part 0 ∷ []) w e t) (follows_taken q (path ++ Part 1 ∷ []) w e t))
        follows_taken (Let place x y p) path w e t = follows_evaluated (val w e y) t _ _ (λ v. follows_taken p (path ++ Bound (v ∷ []) ∷ []) w (put x (Const v) e) t)
        follows_taken (Forall place bs g p) path w e t =
            follows_each _ _ (λ vs t. follows_evaluated (val w (put_tuple bs vs e) g) t _ _ (λ v. follows_branch v _ _ _ _ _ (follows_taken p (path ++ Bound vs ∷ []) w (put_tuple bs vs e) t) refl))
            (tuples_of w.machine.signature bs) set.empty t
        follows_taken (Choose place bs g p q) path w e t =
            follows_then (candidates place (λ vs. val w (put_tuple bs vs e) g) (tuples_of w.machine.signature bs) [] t) (candidates place (λ vs. val w (put_tuple bs vs e) g) (tuples_of w.machine.signature bs) [] t) _ _
            (follows_same (candidates place (λ vs. val w (put_tuple bs vs e) g) (tuples_of w.machine.signature bs) [] t))
            (λ found t. follows_chosen found _ _ _ _
            (follows_then (pick path place found t) (pick' path place found t) _ _ (picks path place found t) (λ vs t. follows_taken p (path ++ Bound vs ∷ []) w (put_tuple bs vs e) t))
            (follows_taken q (path ++ Part 1 ∷ []) w e t))
        follows_taken (Call place f ts) path w e t = alike f (path ++ Called f ∷ []) w e ts t

        pub follows_all : (rs : Rules) (path : Path) (n : ℕ) (w : World) (e : Places) (u : UpdateSet) (t : S) → Follows (taken_all pick bodies path n w e rs u t) (taken_all pick' bodies' path n w e rs u t)
        follows_all none path n w e u t = refl
        follows_all (more r rs) path n w e u t =
            follows_then (taken pick bodies (path ++ Part n ∷ []) w e r t) (taken pick' bodies' (path ++ Part n ∷ []) w e r t) _ _ (follows_taken r (path ++ Part n ∷ []) w e t) (λ v t. follows_all rs path (suc n) w e (set.union u v) t)

    follows_body : (bodies bodies' : Bodies S) → Alike bodies bodies' → (path : Path) (w : World) (e : Places) (o : Option Macro) (ts : Trees) (t : S) → Follows (body_taken pick bodies path w e o ts t) (body_taken pick' bodies' path w e o ts t)
    follows_body bodies bodies' alike path w e None ts t = refl
    follows_body bodies bodies' alike path w e (Some macro) ts t = follows_taken bodies bodies' alike macro.body path w (stand_for macro.parameters e ts) t

    follows_bodies : (n : ℕ) → Alike (bodies_within pick n) (bodies_within pick' n)
    follows_bodies zero f path w e ts t = refl
    follows_bodies (suc n) f path w e ts t = follows_body (bodies_within pick n) (bodies_within pick' n) (follows_bodies n) path w e (slice_get w.machine.rules f) ts t

    -- what a rule gives by the one, it gives by the other
    pub follows_outcome : (w : World) (r : Rule) (u : UpdateSet) (s t : S) → outcome pick w r s ≡ Yields u t → outcome pick' w r s ≡ Yields u t
    follows_outcome w r u s t is = answer_follows (outcome pick w r s) (outcome pick' w r s) u t is (follows_taken (bodies_within pick 32) (bodies_within pick' 32) (follows_bodies 32) r [] w nowhere s)

-- ---- small words

small_picks : (path : Path) (place : Place) (found : List (List Value)) (words : List ℕ) → Follows (by_small_words path place found words) (by_words path place found words)
small_picks path place found [] = tt
small_picks path place found (word ∷ words) =
    elim (nat_lt word (length found)) as (λ (b : Truth). nat_lt word (length found) ≡ b → Follows (if b then Yields (slice_index_or found word []) words else Faults (stop.Choice place) words) (Yields (slice_index_or found (word % length found) []) words)) [
      | true ↦ λ is. (let below : word < length found = grind (arith, nat_tests) in ap (λ (k : ℕ). Yields (slice_index_or found k []) words) (mod-eq_of_lt below))
      | false ↦ λ is. tt
    ] refl

-- what small words give, words give
pub by_words_too : (w : World) (r : Rule) (u : UpdateSet) (words rest : List ℕ) → outcome by_small_words w r words ≡ Yields u rest → outcome by_words w r words ≡ Yields u rest
by_words_too w r u words rest is = follows_outcome by_small_words by_words small_picks w r u words rest is

-- ---- choices that give more

more_picks : (c c' : Choosing) → GivesMore c c' → (path : Path) (place : Place) (found : List (List Value)) (t : Unit {0}) → Follows (by_paths c path place found t) (by_paths c' path place found t)
more_picks c c' given path place found t = of_choice (c path) refl
  where
    of_choice : (o : Option (List Value)) → c path ≡ o → Follows (candidate place found o) (candidate place found (c' path))
    of_choice None is = tt
    of_choice (Some tuple) is = rw (given path tuple is) (follows_same (candidate place found (Some tuple)))

-- what a rule gives under some choices, it gives under choices that give more
pub by_more_choices : (w : World) (r : Rule) (u : UpdateSet) (c c' : Choosing) → GivesMore c c' → outcome (by_paths c) w r tt ≡ Yields u tt → outcome (by_paths c') w r tt ≡ Yields u tt
by_more_choices w r u c c' given is = follows_outcome (by_paths c) (by_paths c') (more_picks c c' given) w r u tt tt is
