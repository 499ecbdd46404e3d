-- What a rule gives under choice words, it gives where each choice is made at its path.
use Rattle.std.proofs.Common.{◌≡◌, ℕ, zero, suc, ◌%◌, ◌++◌, ◌||◌, List, [], ◌∷◌, Option, Some, None, Bool as Truth, true, false, if◌then◌else◌, nat_eq, slice_get, slice_index_or, length, refl, ap, sym, ◌∙◌, subst, arith, append_assoc, true≢false, eq-eqb}
use Rattle.std.specs.Prelude.{⊤, nat_le}
use Rattle.std.specs.List.{list_any}
use Rattle.std.proofs.lemmas.List.Folds.{list_any_at}
use Rattle.std.proofs.lemmas.Option.{slice_get-get_or}
use Rattle.std.proofs.lemmas.Bool.Decides.{nat_tests}
use Rattle.std.proofs.lemmas.List.{append-nil}
use Rattle.std.proofs.Math.Nat.{mod-lt}
use Rattle.std.specs.FinSet as set
use Rattle.asm_source.specs.declared.sources.Place.{Place}
use Rattle.asm_domain.specs.declared.value.Value.{Value}
use Rattle.asm_domain.specs.declared.value.Value.TheVariants.{Undef, Bool, Int, Elem}
use Rattle.asm_domain.specs.Universe.{AreDistinct}
use Rattle.asm_sign.specs.declared.function.Function.{Function}
use Rattle.asm_node.specs.declared.stop.Stop.TheVariants as stop
use Rattle.asm_node.specs.declared.path.Step.{Step}
use Rattle.asm_node.specs.declared.path.Step.TheVariants.{Part, Called, Bound}
use Rattle.asm_node.specs.Tree.{Trees, Const}
use Rattle.asm_node.specs.RuleTree.{Rule, Rules, Skip, Update, Par, Seq, If, Let, Forall, Choose, Call, none, more}
use Rattle.asm_node.specs.Machine.{Machine, Macro, tuples_of}
use Rattle.asm_node.specs.Values.{same_all, is_undef, is_element}
use Rattle.asm_node.specs.Term.{World, Outcome, Gives, Needs, branch, val, vals, Places, put, put_tuple, nowhere}
use Rattle.asm_node.specs.UpdateSet.{UpdateSet, consistent, override, one}
use Rattle.asm_node.specs.Taking.{Attempt, Yields, Faults, Bodies, Path, and_then, evaluated, valued, updated, update, each, candidates, chosen, taken, taken_all, body_taken, bodies_within, outcome, stand_for, fired, by_words, by_paths, candidate, Choosing}
use Rattle.asm_node.proofs.Sameness.{same_all_is, same_all_itself}
use Rattle.asm_laws.specs.Choosing.{TuplesDiffer, GivesByPaths}
use Rattle.asm_laws.proofs.ChoosingWords.{at_place}

-- some ways on from a path
abbrev pub Area : Type 0
Area = Path → Truth

abbrev pub everywhere : Area
everywhere q = true

abbrev pub nowhere_at_all : Area
nowhere_at_all q = false

abbrev pub here : Area
here [] = true
here (step ∷ q) = false

abbrev pub first_is : (Step → Truth) → Area
first_is test [] = false
first_is test (step ∷ q) = test step

-- Choices in an area of ways on from a path give the answer, whatever is chosen elsewhere.
abbrev pub Records : {A : Type 0} → Area → Path → Attempt (List ℕ) A → (Choosing → Attempt (Unit {0}) A) → Type 0
Records own path (Yields a rest) F = (c : Choosing) × ((c' : Choosing) → ((q : Path) → own q ≡ true → c' (path ++ q) ≡ c q) → F c' ≡ Yields a tt)
Records own path (Faults e rest) F = ⊤

module _ (path : Path) where
  no_choice : {A : Type 0} (own : Area) (a : A) (rest : List ℕ) (F : Choosing → Attempt (Unit {0}) A) → ((c' : Choosing) → F c' ≡ Yields a tt) → Records own path (Yields a rest) F
  no_choice own a rest F h = (λ q. None, λ c' agree. h c')

  pub widen : {A : Type 0} (own wide : Area) → ((q : Path) → own q ≡ true → wide q ≡ true) → (o : Attempt (List ℕ) A) (F : Choosing → Attempt (Unit {0}) A) → Records own path o F → Records wide path o F
  widen own wide h (Yields a rest) F r = (r.0, λ c' agree. r.1 c' (λ q is. agree q (h q is)))
  widen own wide h (Faults e rest) F r = tt

  -- a part that stands one step on
  into : {A : Type 0} (step : Step) (test : Step → Truth) → test step ≡ true → (o : Attempt (List ℕ) A) (F : Choosing → Attempt (Unit {0}) A) → Records everywhere (path ++ step ∷ []) o F → Records (first_is test) path o F
  into step test is (Yields a rest) F r = (behind, λ c' agree. r.1 c' (λ q all. ap c' (append_assoc path (step ∷ []) q) ∙ agree (step ∷ q) is))
    where
      behind : Choosing
      behind [] = None
      behind (s ∷ q) = r.0 q
  into step test is (Faults e rest) F r = tt

  records_then : {A B : Type 0} (own own' wide : Area) → ((q : Path) → own q ≡ true → wide q ≡ true) → ((q : Path) → own' q ≡ true → wide q ≡ true) → ((q : Path) → own' q ≡ true → own q ≡ false)
      → (o : Attempt (List ℕ) A) (f : A → List ℕ → Attempt (List ℕ) B) (F : Choosing → Attempt (Unit {0}) A) (G : Choosing → A → Unit {0} → Attempt (Unit {0}) B)
      → Records own path o F → ((a : A) (rest : List ℕ) → Records own' path (f a rest) (λ c. G c a tt)) → Records wide path (and_then o f) (λ c. and_then (F c) (G c))
  records_then {A} {B} own own' wide in_wide in_wide' apart (Yields a rest) f F G r next = go (f a rest) (next a rest)
    where
      go : (p : Attempt (List ℕ) B) → Records own' path p (λ c. G c a tt) → Records wide path p (λ c. and_then (F c) (G c))
      go (Faults e rest') k = tt
      go (Yields b rest') k = (
        λ q. if own q then r.0 q else k.0 q,
        λ c' agree.
            ap (λ (o : Attempt (Unit {0}) A). and_then o (G c')) (r.1 c' (λ q is. agree q (in_wide q is) ∙ ap (λ (t : Truth). if t then r.0 q else k.0 q) is))
            ∙ k.1 c' (λ q is. agree q (in_wide' q is) ∙ ap (λ (t : Truth). if t then r.0 q else k.0 q) (apart q is)),
      )
  records_then own own' wide in_wide in_wide' apart (Faults e rest) f F G r next = tt

  records_evaluated : {A B : Type 0} (own : Area) (o : Outcome A) (s : List ℕ) (f : A → Attempt (List ℕ) B) (G : Choosing → A → Attempt (Unit {0}) B) → ((a : A) → Records own path (f a) (λ c. G c a)) → Records own path (evaluated o s f) (λ c. evaluated o tt (G c))
  records_evaluated own (Gives a) s f G next = next a
  records_evaluated own (Needs l) s f G next = tt

  records_branch : {A : Type 0} (own : Area) (v : Value) (o p q : Attempt (List ℕ) A) (F G H : Choosing → Attempt (Unit {0}) A) → Records own path o F → Records own path p G → Records own path q H → Records own path (branch v o p q) (λ c. branch v (F c) (G c) (H c))
  records_branch own (Bool true) o p q F G H h k l = h
  records_branch own (Bool false) o p q F G H h k l = k
  records_branch own Undef o p q F G H h k l = l
  records_branch own (Int z) o p q F G H h k l = l
  records_branch own (Elem d n) o p q F G H h k l = l

  records_if : {A : Type 0} (own : Area) (b : Truth) (o p : Attempt (List ℕ) A) (F G : Choosing → Attempt (Unit {0}) A) → Records own path o F → Records own path p G → Records own path (if b then o else p) (λ c. if b then F c else G c)
  records_if own true o p F G h k = h
  records_if own false o p F G h k = k

  -- ---- tuples

  abbrev bound_is : List Value → Step → Truth
  bound_is vs (Bound ws) = same_all ws vs
  bound_is vs _ = false

  abbrev bound_among : List (List Value) → Step → Truth
  bound_among tuples (Bound ws) = list_any (same_all ws) tuples
  bound_among tuples _ = false

  abbrev AllDiffer : List (List Value) → Type 0
  AllDiffer [] = ⊤
  AllDiffer (vs ∷ tuples) = (list_any (same_all vs) tuples ≡ false) × AllDiffer tuples

  in_first : (vs : List Value) (tuples : List (List Value)) (q : Path) → first_is (bound_is vs) q ≡ true → first_is (bound_among (vs ∷ tuples)) q ≡ true
  in_first vs tuples [] is = is
  in_first vs tuples (Part k ∷ q) is = is
  in_first vs tuples (Called f ∷ q) is = is
  in_first vs tuples (Bound ws ∷ q) is = rw is refl

  in_others : (vs : List Value) (tuples : List (List Value)) (q : Path) → first_is (bound_among tuples) q ≡ true → first_is (bound_among (vs ∷ tuples)) q ≡ true
  in_others vs tuples [] is = is
  in_others vs tuples (Part k ∷ q) is = is
  in_others vs tuples (Called f ∷ q) is = is
  in_others vs tuples (Bound ws ∷ q) is = go (same_all ws vs) is
    where
      go : (a : Truth) {b : Truth} → b ≡ true → (a || b) ≡ true
      go true is = refl
      go false is = is

  others_apart : (vs : List Value) (tuples : List (List Value)) → list_any (same_all vs) tuples ≡ false → (q : Path) → first_is (bound_among tuples) q ≡ true → first_is (bound_is vs) q ≡ false
  others_apart vs tuples differ [] is = refl
  others_apart vs tuples differ (Part k ∷ q) is = refl
  others_apart vs tuples differ (Called f ∷ q) is = refl
  others_apart vs tuples differ (Bound ws ∷ q) is =
      elim (same_all ws vs) as (λ (b : Truth). same_all ws vs ≡ b → b ≡ false) [
        | true ↦ λ e. absurd (true≢false (sym is ∙ (ap (λ (us : List Value). list_any (same_all us) tuples) (same_all_is ws vs e) ∙ differ)))
        | false ↦ λ e. refl
      ] refl

  records_each : (f : List Value → List ℕ → Attempt (List ℕ) UpdateSet) (G : Choosing → List Value → Unit {0} → Attempt (Unit {0}) UpdateSet)
      → ((vs : List Value) (s : List ℕ) → Records (first_is (bound_is vs)) path (f vs s) (λ c. G c vs tt))
      → (tuples : List (List Value)) → AllDiffer tuples → (u : UpdateSet) (s : List ℕ) → Records (first_is (bound_among tuples)) path (each f tuples u s) (λ c. each (G c) tuples u tt)
  records_each f G h [] d u s = no_choice _ u s _ (λ c'. refl)
  records_each f G h (vs ∷ tuples) d u s =
      records_then (first_is (bound_is vs)) (first_is (bound_among tuples)) _ (in_first vs tuples) (in_others vs tuples) (others_apart vs tuples d.0)
      (f vs s) _ (λ c. G c vs tt) _ (h vs s) (λ v rest. records_each f G h tuples d.1 (set.union u v) rest)

  records_candidates : (place : Place) (guard : List Value → Outcome Value) (tuples found : List (List Value)) (s : List ℕ) → Records nowhere_at_all path (candidates place guard tuples found s) (λ c. candidates place guard tuples found tt)
  records_candidates place guard [] found s = no_choice _ found s _ (λ c'. refl)
  records_candidates place guard (vs ∷ tuples) found s =
      records_evaluated nowhere_at_all (guard vs) s _ _ (λ v. records_branch nowhere_at_all v _ _ _ _ _ _ (records_candidates place guard tuples (found ++ vs ∷ []) s) (records_candidates place guard tuples found s) tt)

  -- the word's candidate is one of the candidates
  among_found : (vs : List Value) (found : List (List Value)) (word : ℕ) → list_any (same_all (slice_index_or (vs ∷ found) (word % length (vs ∷ found)) [])) (vs ∷ found) ≡ true
  among_found vs found word =
      let tuple = slice_index_or (vs ∷ found) (word % length (vs ∷ found)) [] in
      list_any_at (same_all tuple) (vs ∷ found) (word % length (vs ∷ found)) [] (mod-lt word (omega arith)) (same_all_itself tuple)

  records_pick : (place : Place) (vs : List Value) (found : List (List Value)) (s : List ℕ) → Records here path (by_words path place (vs ∷ found) s) (λ c. by_paths c path place (vs ∷ found) tt)
  records_pick place vs found [] = tt
  records_pick place vs found (word ∷ words) =
      let tuple = slice_index_or (vs ∷ found) (word % length (vs ∷ found)) [] in (
        λ q. Some tuple,
        λ c' agree.
            ap (candidate place (vs ∷ found)) (ap c' (sym (append-nil path)) ∙ agree [] refl)
            ∙ ap (λ (b : Truth). if b then Yields tuple tt else Faults (stop.Choice place) tt) (among_found vs found word),
      )

-- ---- parts by their numbers

abbrev part_is : ℕ → Step → Truth
part_is n (Part k) = nat_eq k n
part_is n _ = false

abbrev part_from : ℕ → Step → Truth
part_from n (Part k) = nat_le n k
part_from n _ = false

abbrev any_step : Step → Truth
any_step step = true

from_same : (n k : ℕ) → nat_eq k n ≡ true → nat_le n k ≡ true
from_same n k is = grind (arith, nat_tests)

from_later : (n k : ℕ) → nat_le (suc n) k ≡ true → nat_le n k ≡ true
from_later n k is = grind (arith, nat_tests)

later_apart : (n k : ℕ) → nat_le (suc n) k ≡ true → nat_eq k n ≡ false
later_apart n k is = grind (arith, nat_tests)

part_first : (n : ℕ) (q : Path) → first_is (part_is n) q ≡ true → first_is (part_from n) q ≡ true
part_first n [] is = is
part_first n (Called f ∷ q) is = is
part_first n (Bound vs ∷ q) is = is
part_first n (Part k ∷ q) is = from_same n k is

part_later : (n : ℕ) (q : Path) → first_is (part_from (suc n)) q ≡ true → first_is (part_from n) q ≡ true
part_later n [] is = is
part_later n (Called f ∷ q) is = is
part_later n (Bound vs ∷ q) is = is
part_later n (Part k ∷ q) is = from_later n k is

part_apart : (n : ℕ) (q : Path) → first_is (part_from (suc n)) q ≡ true → first_is (part_is n) q ≡ false
part_apart n [] is = refl
part_apart n (Called f ∷ q) is = refl
part_apart n (Bound vs ∷ q) is = refl
part_apart n (Part k ∷ q) is = later_apart n k is

second_apart : (q : Path) → first_is (part_is 1) q ≡ true → first_is (part_is 0) q ≡ false
second_apart [] is = refl
second_apart (Called f ∷ q) is = refl
second_apart (Bound vs ∷ q) is = refl
second_apart (Part k ∷ q) is = one_apart k is
  where
    one_apart : (k : ℕ) → nat_eq k 1 ≡ true → nat_eq k 0 ≡ false
    one_apart k is = grind (arith, nat_tests)

behind_apart : (q : Path) → first_is any_step q ≡ true → here q ≡ false
behind_apart [] is = absurd (true≢false (sym is))
behind_apart (step ∷ q) is = refl

all_true : (own : Area) (q : Path) → own q ≡ true → everywhere q ≡ true
all_true own q is = refl

records_valued : (path : Path) (w : World) (place : Place) (codomain l : ℕ) (v : Value) (s : List ℕ) → Records everywhere path (valued w place codomain l v s) (λ c. valued w place codomain l v tt)
records_valued path w place codomain l v s =
    records_if path everywhere (is_undef v || is_element w.machine.signature.domains codomain v) (Yields (one l v) s) (Faults (stop.BadValue place l v) s) (λ c. Yields (one l v) tt) (λ c. Faults (stop.BadValue place l v) tt) (no_choice path everywhere (one l v) s _ (λ c'. refl)) tt

records_updated : (path : Path) (w : World) (place : Place) (codomain : ℕ) (slot : Option ℕ) (value : Outcome Value) (s : List ℕ) → Records everywhere path (updated w place codomain slot value s) (λ c. updated w place codomain slot value tt)
records_updated path w place codomain None value s = tt
records_updated path w place codomain (Some l) value s = records_evaluated path everywhere value s _ _ (λ v. records_valued path w place codomain l v s)

records_update : (path : Path) (w : World) (place : Place) (f : ℕ) (function : Option Function) (vs : List Value) (value : Outcome Value) (s : List ℕ) → Records everywhere path (update w place f function vs value s) (λ c. update w place f function vs value tt)
records_update path w place f None vs value s = tt
records_update path w place f (Some function) vs value s = records_updated path w place function.codomain _ value s

all_differ : (path : Path) (tuples : List (List Value)) → AreDistinct tuples → AllDiffer path tuples
all_differ path [] d = tt
all_differ path (vs ∷ tuples) d = (not_among (list_any (same_all vs) tuples) refl, all_differ path tuples (record { one_place = λ i j x a b. suc_is (d.one_place (suc i) (suc j) x a b) }))
  where
    suc_is : {i j : ℕ} → suc i ≡ suc j → i ≡ j
    suc_is e = omega (arith, e)

    not_among : (b : Truth) → list_any (same_all vs) tuples ≡ b → list_any (same_all vs) tuples ≡ false
    not_among false e = e
    not_among true e =
        (let p = at_place vs tuples e in
        let at : slice_get tuples p.0 ≡ Some vs = slice_get-get_or tuples p.0 [] p.1 ∙ ap Some p.2 in
        let same : 0 ≡ suc p.0 = d.one_place 0 (suc p.0) vs refl at in absurd (omega (arith, same)))

module _ (m : Machine) (differ : TuplesDiffer m) where
  module _ (bodies : Bodies (List ℕ)) (bodies' : Choosing → Bodies (Unit {0}))
      (recorded : (f : ℕ) (path : Path) (w : World) (is : w.machine ≡ m) (e : Places) (ts : Trees) (s : List ℕ) → Records everywhere path (bodies f path w e ts s) (λ c. bodies' c f path w e ts tt)) where
    mutual
      pub records_taken : (r : Rule) (path : Path) (w : World) (is : w.machine ≡ m) (e : Places) (s : List ℕ) → Records everywhere path (taken by_words bodies path w e r s) (λ c. taken (by_paths c) (bodies' c) path w e r tt)
      records_taken (Skip place) path w is e s = no_choice path everywhere set.empty s _ (λ c'. refl)
      records_taken (Update place f ts t) path w is e s =
          records_evaluated path everywhere (vals w e ts) s _ _ (λ vs. records_update path w place f (slice_get w.machine.signature.functions f) vs (val w e t) s)
      records_taken (Par place rs) path w is e s = widen path (first_is (part_from 0)) everywhere (all_true _) _ _ (records_all rs path 0 w is e set.empty s)
      records_taken (Seq place p q) path w is e s =
          records_then path (first_is (part_is 0)) (first_is (part_is 1)) everywhere (all_true _) (all_true _) second_apart
          (taken by_words bodies (path ++ Part 0 ∷ []) w e p s) _ (λ c. taken (by_paths c) (bodies' c) (path ++ Part 0 ∷ []) w e p tt) _
          (into path (Part 0) (part_is 0) refl _ _ (records_taken p (path ++ Part 0 ∷ []) w is e s))
          (λ u s. records_if path (first_is (part_is 1)) (consistent u) _ _ _ _
          (records_then path (first_is (part_is 1)) nowhere_at_all (first_is (part_is 1)) (λ q h. h) (λ q h. absurd (true≢false (sym h))) (λ q h. absurd (true≢false (sym h)))
          (taken by_words bodies (path ++ Part 1 ∷ []) (fired w u) e q s) _ (λ c. taken (by_paths c) (bodies' c) (path ++ Part 1 ∷ []) (fired w u) e q tt) _
          (into path (Part 1) (part_is 1) refl _ _ (records_taken q (path ++ Part 1 ∷ []) (fired w u) is e s))
          (λ v s. no_choice path nowhere_at_all (override u v) s _ (λ c'. refl)))
          (no_choice path (first_is (part_is 1)) u s _ (λ c'. refl)))
      records_taken (If place g p q) path w is e s =
          records_evaluated path everywhere (val w e g) s _ _ (λ v. records_branch path everywhere v _ _ _ _ _ _
          (widen path (first_is (part_is 0)) everywhere (all_true _) _ _ (into path (Part 0) (part_is 0) refl _ _ (records_taken p (path ++ Part 0 ∷ []) w is e s)))
          (widen path (first_is (part_is 1)) everywhere (all_true _) _ _ (into path (Part 1) (part_is 1) refl _ _ (records_taken q (path ++ Part 1 ∷ []) w is e s))) tt)
      records_taken (Let place x t p) path w is e s =
          records_evaluated path everywhere (val w e t) s _ _ (λ v. widen path (first_is any_step) everywhere (all_true _) _ _ (into path (Bound (v ∷ [])) any_step refl _ _ (records_taken p (path ++ Bound (v ∷ []) ∷ []) w is (put x (Const v) e) s)))
      records_taken (Forall place bs g p) path w is e s =
          widen path (first_is (bound_among path (tuples_of w.machine.signature bs))) everywhere (all_true _) _ _
          (records_each path _ _ (λ vs s. records_evaluated path (first_is (bound_is path vs)) (val w (put_tuple bs vs e) g) s _ _ (λ v. records_branch path (first_is (bound_is path vs)) v _ _ _ _ _ _
          (into path (Bound vs) (bound_is path vs) (same_all_itself vs) _ _ (records_taken p (path ++ Bound vs ∷ []) w is (put_tuple bs vs e) s)) (no_choice path (first_is (bound_is path vs)) set.empty s _ (λ c'. refl)) tt))
          (tuples_of w.machine.signature bs) (all_differ path (tuples_of w.machine.signature bs) (subst (λ (n : Machine). AreDistinct (tuples_of n.signature bs)) (sym is) (differ bs))) set.empty s)
      records_taken (Choose place bs g p q) path w is e s =
          records_then path nowhere_at_all everywhere everywhere (all_true _) (all_true _) (λ q h. refl)
          (candidates place (λ vs. val w (put_tuple bs vs e) g) (tuples_of w.machine.signature bs) [] s) _ (λ c. candidates place (λ vs. val w (put_tuple bs vs e) g) (tuples_of w.machine.signature bs) [] tt) _
          (records_candidates path place (λ vs. val w (put_tuple bs vs e) g) (tuples_of w.machine.signature bs) [] s)
          (λ found s. of_found (λ s. records_taken q (path ++ Part 1 ∷ []) w is e s) (λ vs s. records_taken p (path ++ Bound vs ∷ []) w is (put_tuple bs vs e) s) found s)
        where
          of_found : ((s : List ℕ) → Records everywhere (path ++ Part 1 ∷ []) (taken by_words bodies (path ++ Part 1 ∷ []) w e q s) (λ c. taken (by_paths c) (bodies' c) (path ++ Part 1 ∷ []) w e q tt))
              → ((vs : List Value) (s : List ℕ) → Records everywhere (path ++ Bound vs ∷ []) (taken by_words bodies (path ++ Bound vs ∷ []) w (put_tuple bs vs e) p s) (λ c. taken (by_paths c) (bodies' c) (path ++ Bound vs ∷ []) w (put_tuple bs vs e) p tt))
              → (found : List (List Value)) (s : List ℕ) → Records everywhere path
              (chosen found (and_then (by_words path place found s) (λ vs s. taken by_words bodies (path ++ Bound vs ∷ []) w (put_tuple bs vs e) p s)) (taken by_words bodies (path ++ Part 1 ∷ []) w e q s))
              (λ c. chosen found (and_then (by_paths c path place found tt) (λ vs t. taken (by_paths c) (bodies' c) (path ++ Bound vs ∷ []) w (put_tuple bs vs e) p t)) (taken (by_paths c) (bodies' c) (path ++ Part 1 ∷ []) w e q tt))
          of_found other body [] s = widen path (first_is (part_is 1)) everywhere (all_true _) _ _ (into path (Part 1) (part_is 1) refl _ _ (other s))
          of_found other body (vs ∷ found) s =
              records_then path here (first_is any_step) everywhere (all_true _) (all_true _) behind_apart
              (by_words path place (vs ∷ found) s) _ (λ c. by_paths c path place (vs ∷ found) tt) _ (records_pick path place vs found s)
              (λ us s. into path (Bound us) any_step refl _ _ (body us s))
      records_taken (Call place f ts) path w is e s =
          widen path (first_is any_step) everywhere (all_true _) _ _ (into path (Called f) any_step refl _ _ (recorded f (path ++ Called f ∷ []) w is e ts s))

      pub records_all : (rs : Rules) (path : Path) (n : ℕ) (w : World) (is : w.machine ≡ m) (e : Places) (u : UpdateSet) (s : List ℕ) → Records (first_is (part_from n)) path (taken_all by_words bodies path n w e rs u s) (λ c. taken_all (by_paths c) (bodies' c) path n w e rs u tt)
      records_all none path n w is e u s = no_choice path (first_is (part_from n)) u s _ (λ c'. refl)
      records_all (more r rs) path n w is e u s =
          records_then path (first_is (part_is n)) (first_is (part_from (suc n))) (first_is (part_from n)) (part_first n) (part_later n) (part_apart n)
          (taken by_words bodies (path ++ Part n ∷ []) w e r s) _ (λ c. taken (by_paths c) (bodies' c) (path ++ Part n ∷ []) w e r tt) _
          (into path (Part n) (part_is n) (eq-eqb n n refl) _ _ (records_taken r (path ++ Part n ∷ []) w is e s))
          (λ v s. records_all rs path (suc n) w is e (set.union u v) s)

  records_bodies : (n : ℕ) (f : ℕ) (path : Path) (w : World) (is : w.machine ≡ m) (e : Places) (ts : Trees) (s : List ℕ) → Records everywhere path (bodies_within by_words n f path w e ts s) (λ c. bodies_within (by_paths c) n f path w e ts tt)
  records_bodies zero f path w is e ts s = no_choice path everywhere set.empty s _ (λ c'. refl)
  records_bodies (suc n) f path w is e ts s = go (records_bodies n) (slice_get w.machine.rules f)
    where
      go : ((f : ℕ) (path : Path) (w : World) (is : w.machine ≡ m) (e : Places) (ts : Trees) (s : List ℕ) → Records everywhere path (bodies_within by_words n f path w e ts s) (λ c. bodies_within (by_paths c) n f path w e ts tt))
          → (o : Option Macro) → Records everywhere path (body_taken by_words (bodies_within by_words n) path w e o ts s) (λ c. body_taken (by_paths c) (bodies_within (by_paths c) n) path w e o ts tt)
      go inner None = no_choice path everywhere set.empty s _ (λ c'. refl)
      go inner (Some macro) = records_taken (bodies_within by_words n) (λ c. bodies_within (by_paths c) n) inner macro.body path w is (stand_for macro.parameters e ts) s

  -- what a rule gives by words, it gives by paths
  pub outcome_records : (w : World) (is : w.machine ≡ m) (r : Rule) (words : List ℕ) → Records everywhere [] (outcome by_words w r words) (λ c. outcome (by_paths c) w r tt)
  outcome_records w is r words = records_taken (bodies_within by_words 32) (λ c. bodies_within (by_paths c) 32) (records_bodies 32) r [] w is nowhere words

-- where some words give a set, some choices at paths do
pub paths_for : (w : World) (r : Rule) (u : UpdateSet) (words rest : List ℕ) → TuplesDiffer w.machine → outcome by_words w r words ≡ Yields u rest → GivesByPaths w r u
paths_for w r u words rest differ is = go (outcome by_words w r words) is (outcome_records w.machine differ w refl r words)
  where
    go : (o : Attempt (List ℕ) UpdateSet) → o ≡ Yields u rest → Records everywhere [] o (λ c. outcome (by_paths c) w r tt) → GivesByPaths w r u
    go o e h = (let k = subst (λ (p : Attempt (List ℕ) UpdateSet). Records everywhere [] p (λ c. outcome (by_paths c) w r tt)) e h in record { choosing = k.0; gives = k.1 k.0 (λ q all. refl) })
