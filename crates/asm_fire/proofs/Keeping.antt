-- What a sound rule gives, a state takes.
use Rattle.std.proofs.Common.{◌≡◌, ℕ, zero, suc, ◌<◌, Bool as Truth, true, false, not, ◌&&◌, ◌||◌, if◌then◌else◌, List, [], ◌∷◌, ◌++◌, length, get_or, nat_eq, find, slice_get, Option, Some, None, option_map, unwrap_or, is_some, T, eqb→eq, refl, sym, ap, ◌∙◌, subst, true≢false, arith, ◌⊎◌, inl, inr}
use Rattle.std.specs.Bool.{⊤}
use Rattle.std.specs.Prelude.{IsTrue, Contains}
use Rattle.std.specs.Option.{IsSome}
use Rattle.std.specs.Ordering.{eq_by_cmp}
use Rattle.std.specs.List.{list_any}
use Rattle.std.specs.FinSet as set
use Rattle.std.specs.FinMap.{get}
use Rattle.asm_source.specs.declared.sources.Place.{Place}
use Rattle.asm_domain.specs.declared.value.Value.{Value}
use Rattle.asm_domain.specs.declared.value.Value.TheVariants.{Undef, Bool, Int, Elem}
use Rattle.asm_sign.specs.declared.function.Function.{Function}
use Rattle.asm_sign.specs.Kind.{is_kept}
use Rattle.asm_sign.specs.Vocabulary.{locations, function_at, function_of}
use Rattle.asm_node.specs.declared.path.Step.TheVariants.{Part, Called, Bound}
use Rattle.asm_node.specs.Tree.{Trees, Const}
use Rattle.asm_node.specs.RuleTree.{Rule, Rules, Skip, Update, Par, Seq, If, Let, Forall, Choose, Call, none, more}
use Rattle.asm_node.specs.Values.{same, whole, is_whole, is_element, is_undef, same_all}
use Rattle.asm_sign.specs.Arguments.{elements_at}
use Rattle.asm_update.specs.Clash.{HaveLocations}
use Rattle.std.proofs.lemmas.Bool.{ne_eqb}
use Rattle.asm_node.specs.Machine.{Machine, Macro, State, Input, tuples_of, has_kind, slot_at, same_location}
use Rattle.asm_node.specs.Term.{Outcome, Gives, Needs, Places, put, put_tuple, val, vals, branch}
use Rattle.asm_node.specs.UpdateSet.{UpdateSet, Pair, pair_cmp, ranked_values, one, consistent, touches, override, value_at, fire}
use Rattle.asm_node.specs.Taking.{Attempt, Yields, Faults, Bodies, Path, Pick, and_then, evaluated, valued, updated, update, each, guarded, candidates, chosen, after_set, taken, taken_all, bodies_within, body_taken, by_words, stand_for}
use Rattle.asm_node.specs.Step.{IsState, may_have}
use Rattle.asm_node.proofs.UpdateSets.{pair_total, pair_apart, same_is}
use Rattle.asm_node.proofs.Revising.{get-revised, has-revised}
use Rattle.asm_eval.specs.World.{world_in}
use Rattle.std.proofs.lemmas.List.Quantifiers.{position-Some}
use Rattle.std.proofs.lemmas.Option.{slice_get-get_or, slice_get_within}
use Rattle.std.specs.Cmp.{tied_itself}
use Rattle.std.proofs.lemmas.Map.Views.{tells_apart}
use Rattle.std.proofs.lemmas.List.Elements.{Contains-append_cases}
use Rattle.asm_node.specs.declared.stop.Stop.TheVariants.{UndefGuard}
use Rattle.std.specs.Ordering.{is_eq}
use Rattle.asm_fire.specs.Picking.{PicksCandidates, word_picks}
use Rattle.asm_fire.specs.Sound.{HasDomain, IsKept, OfBodies, IsSoundIn, AreSoundIn, sound_within, IsSoundBody, AreKept}

module _ (m : Machine) where
  kept-none : AreKept m set.empty
  kept-none l v is = absurd (true≢false (sym is ∙ set.contains-empty pair_cmp (l, v)))

  or_cases : {A : Type 0} (a b : Truth) → (a || b) ≡ true → (a ≡ true → A) → (b ≡ true → A) → A
  or_cases true b is left right = left refl
  or_cases false b is left right = right is

  kept-union : (u v : UpdateSet) → AreKept m u → AreKept m v → AreKept m (set.union u v)
  kept-union u v first second l x is = or_cases (set.contains u (l, x)) (set.contains v (l, x)) (sym (set.contains-union pair_total u v (l, x)) ∙ is) (first l x) (second l x)

  and_first : (a b : Truth) → (a && b) ≡ true → a ≡ true
  and_first true b is = refl
  and_first false b is = is

  kept-retain : (u : UpdateSet) (test : Pair → Truth) → AreKept m u → AreKept m (set.retain u test)
  kept-retain u test kept l x is =
      kept l x (and_first (set.contains u (l, x)) (test (l, x)) (sym (set.contains-retain u test (l, x) (λ p tie. ap test (sym (pair_apart (l, x) p tie)))) ∙ is))

  kept-override : (u v : UpdateSet) → AreKept m u → AreKept m v → AreKept m (override u v)
  kept-override u v first second = kept-union (set.retain u (λ p. not (touches v p.0))) v (kept-retain u (λ p. not (touches v p.0)) first) second

  -- a slot that a set touches has a pair in it
  any_pair : (ps : List Pair) (l : ℕ) → list_any (λ p. nat_eq p.0 l) ps ≡ true → (v : Value) × (list_any (eq_by_cmp pair_cmp (l, v)) ps ≡ true)
  any_pair [] l is = absurd (true≢false (sym is))
  any_pair (p ∷ ps) l is =
      elim (nat_eq p.0 l) as (λ b. nat_eq p.0 l ≡ b → (b || list_any (λ p. nat_eq p.0 l) ps) ≡ true → (v : Value) × ((eq_by_cmp pair_cmp (l, v) p || list_any (eq_by_cmp pair_cmp (l, v)) ps) ≡ true)) [
        | true ↦ λ at _. (p.1, ap (λ b. b || list_any (eq_by_cmp pair_cmp (l, p.1)) ps) (ap (λ k. eq_by_cmp pair_cmp (k, p.1) p) (sym (eqb→eq p.0 l (subst T (sym at) tt))) ∙ ap is_eq (tied_itself pair_total p)))
        | false ↦ λ _ rest. let later = any_pair ps l rest in (later.0, or_more (eq_by_cmp pair_cmp (l, later.0) p) _ later.1)
      ] refl is
    where
      or_more : (a b : Truth) → b ≡ true → (a || b) ≡ true
      or_more true b is = refl
      or_more false b is = is

  abbrev value_of_pair : Pair → Value
  value_of_pair p = p.1

  any_value : (ps : List Pair) (l : ℕ) (v : Value) → option_map value_of_pair (find (λ p. nat_eq p.0 l) ps) ≡ Some v → list_any (eq_by_cmp pair_cmp (l, v)) ps ≡ true
  any_value [] l v is = absurd (cc is)
  any_value (p ∷ ps) l v is =
      elim (nat_eq p.0 l) as (λ b. nat_eq p.0 l ≡ b → option_map value_of_pair (if b then Some p else find (λ p. nat_eq p.0 l) ps) ≡ Some v → (eq_by_cmp pair_cmp (l, v) p || list_any (eq_by_cmp pair_cmp (l, v)) ps) ≡ true) [
        | true ↦ λ at e. let w : p.1 ≡ v = cc e in ap (λ b. b || list_any (eq_by_cmp pair_cmp (l, v)) ps) ((λ i. eq_by_cmp pair_cmp (sym (eqb→eq p.0 l (subst T (sym at) tt)) i, sym w i) p) ∙ ap is_eq (tied_itself pair_total p))
        | false ↦ λ _ e. or_more (eq_by_cmp pair_cmp (l, v) p) _ (any_value ps l v e)
      ] refl is
    where
      or_more : (a b : Truth) → b ≡ true → (a || b) ≡ true
      or_more true b is = refl
      or_more false b is = is

  pub touched : (u : UpdateSet) (l : ℕ) → AreKept m u → touches u l ≡ true → has_kind is_kept (function_at m.signature l) ≡ true
  touched u l kept is = let at = any_pair (set.items u) l is in (kept l at.0 (set.contains-items u (l, at.0) ∙ at.1)).0

  -- a state has each slot of such a set
  pub have_slots : (s : State) (u : UpdateSet) → IsState m s → AreKept m u → (l : ℕ) → touches u l ≡ true → IsSome (get s l)
  have_slots s u state kept l is = some (get s l) (state.has_kept l ∙ touched u l kept is)
    where
      some : (o : Option Value) → is_some o ≡ true → IsSome o
      some (Some v) is = refl
      some None is = absurd (true≢false (sym is))

  fired_value : (s : State) (u : UpdateSet) (l : ℕ) (v : Value) → IsState m s → AreKept m u → (o : Option Value) → get s l ≡ o → option_map (λ w. unwrap_or (value_at u l) w) o ≡ Some v → IsTrue (may_have m (function_at m.signature l) v)
  fired_value s u l v state kept None at is = absurd (cc is)
  fired_value s u l v state kept (Some w) at is =
      elim (value_at u l) as (λ o. value_at u l ≡ o → ◌≡◌ {A = Option Value} (Some (unwrap_or o w)) (Some v) → IsTrue (may_have m (function_at m.signature l) v)) [
        | None ↦ λ _ e. state.may_have_it l v (at ∙ e)
        | Some x ↦ λ given e. (kept l v (set.contains-items u (l, v) ∙ any_value (set.items u) l v (given ∙ e))).1
      ] refl is

  -- a state stays one where such a set is fired
  pub fired-state : (s : State) (u : UpdateSet) → IsState m s → AreKept m u → IsState m (fire s u)
  fired-state s u state kept = record {
    has_kept = λ l. has-revised (λ l v. unwrap_or (value_at u l) v) s l ∙ state.has_kept l;
    may_have_it = λ l v is. fired_value s u l v state kept (get s l) refl (sym (get-revised (λ l v. unwrap_or (value_at u l) v) s l) ∙ is);
  }

  slot-function : (f : ℕ) (vs : List Value) (l : ℕ) → slot_at m.signature f vs ≡ Some l → function_at m.signature l ≡ slice_get m.signature.functions f
  slot-function f vs l at =
      let found = position-Some (λ location. same_location location (f, vs)) (locations m.signature) l (f, vs) at in
      let here : ℕ × List Value = get_or (locations m.signature) l (f, vs) in
      ap (function_of m.signature) (slice_get-get_or (locations m.signature) l (f, vs) found.0)
      ∙ ap (slice_get m.signature.functions) (eqb→eq here.0 f (subst T (sym (and_first (nat_eq here.0 f) (same_all here.1 vs) found.1)) tt))

  abbrev IsValue : ℕ → Value → Type 0
  IsValue l v = (has_kind is_kept (function_at m.signature l) ≡ true) × IsTrue (may_have m (function_at m.signature l) v) × Contains (ranked_values m.signature (function_at m.signature l)) v

  kept-one : (l : ℕ) (v : Value) → IsValue l v → AreKept m (one l v)
  kept-one l v may k w is =
      or_cases (eq_by_cmp pair_cmp (k, w) (l, v)) (set.contains set.empty (k, w)) (sym (set.contains-insert pair_total set.empty (l, v) (k, w)) ∙ is)
      (λ tie. let e : (k, w) ≡ (l, v) = tells_apart pair_apart (k, w) (l, v) tie in subst (λ (p : Pair). IsValue p.0 p.1) (sym e) may)
      (λ nothing. absurd (true≢false (sym nothing ∙ set.contains-empty pair_cmp (k, w))))

  among : (xs : List Value) (v : Value) → list_any (λ w. same w v) xs ≡ true → Contains xs v
  among [] v is = absurd (true≢false (sym is))
  among (x ∷ xs) v is =
      or_cases (same x v) (list_any (λ w. same w v) xs) is
      (λ here. (zero, omega arith, same_is x v here))
      (λ later. let at = among xs v later in (suc at.0, omega (arith, at.1), at.2))

  -- a value that the codomain has is among those of the location
  ranked : (function : Function) (v : Value) → (function.codomain ≡ whole → ⊥) → (is_undef v || is_element m.signature.domains function.codomain v) ≡ true → Contains (ranked_values m.signature (Some function)) v
  ranked function v finite may =
      or_cases (is_undef v) (is_element m.signature.domains function.codomain v) may
      (λ undefined. (zero, omega arith, sym (same_is v Undef undefined)))
      (λ element. let at = among (elements_at m.signature.domains function.codomain) v (sym (ap (λ b. if b then is_whole v else list_any (λ w. same w v) (elements_at m.signature.domains function.codomain)) (ne_eqb function.codomain whole finite)) ∙ element) in (suc at.0, omega (arith, at.1), at.2))

  has_location : (l : ℕ) (o : Option (ℕ × List Value)) → slice_get (locations m.signature) l ≡ o → has_kind is_kept (function_of m.signature o) ≡ true → l < length (locations m.signature)
  has_location l None at is = absurd (true≢false (sym is))
  has_location l (Some p) at is = slice_get_within (locations m.signature) l p at

  pub have_locations : (u : UpdateSet) → AreKept m u → HaveLocations m.signature u
  have_locations u kept l v is = (has_location l (slice_get (locations m.signature) l) refl (kept l v is).0, (kept l v is).2)

  -- a set that is given, is kept
  abbrev pub Good : {S : Type 0} → Attempt S UpdateSet → Type 0
  Good (Yields u s) = AreKept m u
  Good (Faults stop s) = ⊤

  module _ {S : Type 0} where
    good_then : {A : Type 0} (a : Attempt S A) (f : A → S → Attempt S UpdateSet) → ((x : A) (s : S) → a ≡ Yields x s → Good (f x s)) → Good (and_then a f)
    good_then (Yields x s) f next = next x s refl
    good_then (Faults stop s) f next = tt

    given : (a : Attempt S UpdateSet) (u : UpdateSet) (s : S) → Good a → a ≡ Yields u s → AreKept m u
    given a u s good is = subst Good is good

    good_evaluated : {A : Type 0} (o : Outcome A) (s : S) (f : A → Attempt S UpdateSet) → ((x : A) → o ≡ Gives x → Good (f x)) → Good (evaluated o s f)
    good_evaluated (Gives x) s f next = next x refl
    good_evaluated (Needs l) s f next = tt

    good_branch : (v : Value) (a b : Attempt S UpdateSet) (stop : Attempt S UpdateSet) → Good a → Good b → Good stop → Good (branch v a b stop)
    good_branch (Bool true) a b stop first second third = first
    good_branch (Bool false) a b stop first second third = second
    good_branch Undef a b stop first second third = third
    good_branch (Int z) a b stop first second third = third
    good_branch (Elem d k) a b stop first second third = third

    good_if : (b : Truth) (p q : Attempt S UpdateSet) → (b ≡ true → Good p) → (b ≡ false → Good q) → Good (if b then p else q)
    good_if true p q first second = first refl
    good_if false p q first second = second refl

    good_after : (u : UpdateSet) (s : S) (later : S → Attempt S UpdateSet) → AreKept m u → ((t : S) → Good (later t)) → Good (after_set u s later)
    good_after u s later kept next =
        good_if (consistent u) _ _ (λ _. good_then (later s) (λ v s. Yields (override u v) s) (λ v t is. kept-override u v kept (given (later s) v t (next s) is))) (λ _. kept)

    good_each : (instance : List Value → S → Attempt S UpdateSet) (ts : List (List Value)) (u : UpdateSet) (s : S) → AreKept m u → ((vs : List Value) (t : S) → Contains ts vs → Good (instance vs t)) → Good (each instance ts u s)
    good_each instance [] u s kept next = kept
    good_each instance (t ∷ ts) u s kept next =
        good_then (instance t s) (λ v s. each instance ts (set.union u v) s) (λ v r is.
        good_each instance ts (set.union u v) r (kept-union u v kept (given (instance t s) v r (next t s (zero, omega arith, refl)) is))
        (λ vs q at. next vs q (suc at.0, omega (arith, at.1), at.2)))

    good_update : (s : State) (i : Input) (place : Place) (f : ℕ) (vs : List Value) (value : Outcome Value) (t : S) → IsKept m f → Good (update (world_in m s i) place f (slice_get m.signature.functions f) vs value t)
    good_update s i place f vs value t kept = of_function (slice_get m.signature.functions f) refl
      where
        of_slot : (function : Function) → slice_get m.signature.functions f ≡ Some function → (slot : Option ℕ) → slot_at m.signature f vs ≡ slot → Good (updated (world_in m s i) place function.codomain slot value t)
        of_slot function is None at = tt
        of_slot function is (Some l) at =
            good_evaluated value t (λ v. valued (world_in m s i) place function.codomain l v t) (λ v _.
            good_if (is_undef v || is_element m.signature.domains function.codomain v) _ _
            (λ may. kept-one l v (
              ap (has_kind is_kept) (slot-function f vs l at) ∙ kept.0,
              subst IsTrue (sym (ap (λ o. may_have m o v) (slot-function f vs l at ∙ is) ∙ may)) true_is,
              subst (λ o. Contains (ranked_values m.signature o) v) (sym (slot-function f vs l at ∙ is)) (ranked function v (subst HasDomain is kept.1) may),
            )) (λ _. tt))
          where
            true_is : IsTrue true
            true_is = refl

        of_function : (o : Option Function) → slice_get m.signature.functions f ≡ o → Good (update (world_in m s i) place f o vs value t)
        of_function None is = tt
        of_function (Some function) is = of_slot function is (slot_at m.signature f vs) refl

-- what is found so far, or one of the tuples
abbrev Within : List (List Value) → List (List Value) → List Value → Type 0
Within found ts vs = Contains found vs ⊎ Contains ts vs

within-later : (t : List Value) (found ts : List (List Value)) (vs : List Value) → Within found ts vs → Within found (t ∷ ts) vs
within-later t found ts vs (inl at) = inl at
within-later t found ts vs (inr at) = inr (suc at.0, omega (arith, at.1), at.2)

within-found : (t : List Value) (found ts : List (List Value)) (vs : List Value) → Within (found ++ t ∷ []) ts vs → Within found (t ∷ ts) vs
within-found t found ts vs (inr at) = inr (suc at.0, omega (arith, at.1), at.2)
within-found t found ts vs (inl at) = elim (Contains-append_cases found (t ∷ []) vs at) as (λ _. Within found (t ∷ ts) vs) [ inl here ↦ inl here | inr one ↦ inr (zero, omega arith, only one) ]
  where
    only : Contains (t ∷ []) vs → t ≡ vs
    only (zero, lt, is) = is
    only (suc k, lt, is) = absurd (omega (arith, lt))

within-value : (place : Place) (x : List Value) (ts found all : List (List Value)) (vs : List Value) (longer same : Attempt (List ℕ) (List (List Value))) (s t : List ℕ) → (longer ≡ Yields all t → Within (found ++ x ∷ []) ts vs) → (same ≡ Yields all t → Within found ts vs)
    → (v : Value) → branch v longer same (Faults (UndefGuard place) s) ≡ Yields all t → Within found (x ∷ ts) vs
within-value place x ts found all vs longer same s t first second (Bool true) is = within-found x found ts vs (first is)
within-value place x ts found all vs longer same s t first second (Bool false) is = within-later x found ts vs (second is)
within-value place x ts found all vs longer same s t first second Undef is = absurd (cc is)
within-value place x ts found all vs longer same s t first second (Int z) is = absurd (cc is)
within-value place x ts found all vs longer same s t first second (Elem d k) is = absurd (cc is)

within-guard : (place : Place) (x : List Value) (ts found all : List (List Value)) (vs : List Value) (longer same : Attempt (List ℕ) (List (List Value))) (s t : List ℕ) → (longer ≡ Yields all t → Within (found ++ x ∷ []) ts vs) → (same ≡ Yields all t → Within found ts vs)
    → (o : Outcome Value) → evaluated o s (λ v. branch v longer same (Faults (UndefGuard place) s)) ≡ Yields all t → Within found (x ∷ ts) vs
within-guard place x ts found all vs longer same s t first second (Gives v) is = within-value place x ts found all vs longer same s t first second v is
within-guard place x ts found all vs longer same s t first second (Needs l) is = absurd (cc is)

-- candidates are some of the tuples
pub candidates-within : (place : Place) (guard : List Value → Outcome Value) (ts found all : List (List Value)) (s t : List ℕ) → candidates place guard ts found s ≡ Yields all t → (vs : List Value) → Contains all vs → Within found ts vs
candidates-within place guard [] found all s t is vs at = let e : found ≡ all = cc is in inl (subst (λ xs. Contains xs vs) (sym e) at)
candidates-within place guard (x ∷ ts) found all s t is vs at =
    within-guard place x ts found all vs (candidates place guard ts (found ++ x ∷ []) s) (candidates place guard ts found s) s t
    (λ e. candidates-within place guard ts (found ++ x ∷ []) all s t e vs at) (λ e. candidates-within place guard ts found all s t e vs at) (guard x) is

pub are-tuples : (place : Place) (guard : List Value → Outcome Value) (ts all : List (List Value)) (s t : List ℕ) → candidates place guard ts [] s ≡ Yields all t → (vs : List Value) → Contains all vs → Contains ts vs
are-tuples place guard ts all s t is vs at = elim (candidates-within place guard ts [] all s t is vs at) as (λ _. Contains ts vs) [ inl empty ↦ absurd (omega (arith, empty.1)) | inr at ↦ at ]

module _ (m : Machine) (i : Input) (pick : Pick (List ℕ)) (among : PicksCandidates pick) where
  module _ (of_bodies : OfBodies) (bodies : Bodies (List ℕ)) (bodies_good : (f : ℕ) (path : Path) (s : State) (e : Places) (ts : Trees) (t : List ℕ) → IsState m s → of_bodies f e ts → Good m (bodies f path (world_in m s i) e ts t)) where
    good_chosen : (path : Path) (place : Place) (found : List (List Value)) (t : List ℕ) (body : List Value → List ℕ → Attempt (List ℕ) UpdateSet) (otherwise : Attempt (List ℕ) UpdateSet) → ((vs : List Value) (r : List ℕ) → Contains found vs → Good m (body vs r)) → Good m otherwise → Good m (chosen found (and_then (pick path place found t) body) otherwise)
    good_chosen path place [] t body otherwise bodies other = other
    good_chosen path place (x ∷ found) t body otherwise bodies other =
        good_then m (pick path place (x ∷ found) t) body (λ vs r is. bodies vs r (among path place (x ∷ found) t r vs (omega arith) is))

    mutual
      pub good_taken : (path : Path) (s : State) (e : Places) (rule : Rule) (t : List ℕ) → IsState m s → IsSoundIn m i of_bodies e rule → Good m (taken pick bodies path (world_in m s i) e rule t)
      good_taken path s e (Skip place) t state sound = kept-none m
      good_taken path s e (Update place f ts x) t state sound =
          good_evaluated m (vals (world_in m s i) e ts) t _ (λ vs _. good_update m s i place f vs (val (world_in m s i) e x) t sound.2)
      good_taken path s e (Par place rs) t state sound = good_all path 0 s e rs set.empty t state (kept-none m) sound
      good_taken path s e (Seq place p q) t state sound =
          good_then m (taken pick bodies (path ++ Part 0 ∷ []) (world_in m s i) e p t) _ (λ u r is.
          let kept = given m (taken pick bodies (path ++ Part 0 ∷ []) (world_in m s i) e p t) u r (good_taken (path ++ Part 0 ∷ []) s e p t state sound.0) is in
          good_after m u r (λ r. taken pick bodies (path ++ Part 1 ∷ []) (world_in m (fire s u) i) e q r) kept (λ r. good_taken (path ++ Part 1 ∷ []) (fire s u) e q r (fired-state m s u state kept) sound.1))
      good_taken path s e (If place g p q) t state sound =
          good_evaluated m (val (world_in m s i) e g) t _ (λ v _. good_branch m v _ _ _ (good_taken (path ++ Part 0 ∷ []) s e p t state sound.1) (good_taken (path ++ Part 1 ∷ []) s e q t state sound.2) tt)
      good_taken path s e (Let place x y p) t state sound =
          good_evaluated m (val (world_in m s i) e y) t _ (λ v is. good_taken (path ++ Bound (v ∷ []) ∷ []) s (put x (Const v) e) p t state (sound.1 s v state is))
      good_taken path s e (Forall place bs g p) t state sound =
          good_each m (λ vs r. guarded place (val (world_in m s i) (put_tuple bs vs e) g) (taken pick bodies (path ++ Bound vs ∷ []) (world_in m s i) (put_tuple bs vs e) p r) r) (tuples_of m.signature bs) set.empty t (kept-none m) (λ vs r at.
          good_evaluated m (val (world_in m s i) (put_tuple bs vs e) g) r _ (λ v _. good_branch m v _ _ _ (good_taken (path ++ Bound vs ∷ []) s (put_tuple bs vs e) p r state (sound vs at).1) (kept-none m) tt))
      good_taken path s e (Choose place bs g p q) t state sound =
          good_then m (candidates place (λ vs. val (world_in m s i) (put_tuple bs vs e) g) (tuples_of m.signature bs) [] t) _ (λ found r0 is.
          good_chosen path place found r0 (λ vs r. taken pick bodies (path ++ Bound vs ∷ []) (world_in m s i) (put_tuple bs vs e) p r) _
          (λ vs r at. good_taken (path ++ Bound vs ∷ []) s (put_tuple bs vs e) p r state (sound.0 vs (are-tuples place (λ vs. val (world_in m s i) (put_tuple bs vs e) g) (tuples_of m.signature bs) found t r0 is vs at)).1)
          (good_taken (path ++ Part 1 ∷ []) s e q r0 state sound.1))
      good_taken path s e (Call place f ts) t state sound = bodies_good f (path ++ Called f ∷ []) s e ts t state sound

      pub good_all : (path : Path) (k : ℕ) (s : State) (e : Places) (rs : Rules) (u : UpdateSet) (t : List ℕ) → IsState m s → AreKept m u → AreSoundIn m i of_bodies e rs → Good m (taken_all pick bodies path k (world_in m s i) e rs u t)
      good_all path k s e none u t state kept sound = kept
      good_all path k s e (more r rs) u t state kept sound =
          good_then m (taken pick bodies (path ++ Part k ∷ []) (world_in m s i) e r t) _ (λ v q is.
          good_all path (suc k) s e rs (set.union u v) q state (kept-union m u v kept (given m (taken pick bodies (path ++ Part k ∷ []) (world_in m s i) e r t) v q (good_taken (path ++ Part k ∷ []) s e r t state sound.0) is)) sound.1)

  good_macro : (n : ℕ) → ((f : ℕ) (path : Path) (s : State) (e : Places) (ts : Trees) (t : List ℕ) → IsState m s → sound_within m i n f e ts → Good m (bodies_within pick n f path (world_in m s i) e ts t))
      → (o : Option Macro) (path : Path) (s : State) (e : Places) (ts : Trees) (t : List ℕ) → IsState m s → IsSoundBody m i (sound_within m i n) o e ts → Good m (body_taken pick (bodies_within pick n) path (world_in m s i) e o ts t)
  good_macro n bodies None path s e ts t state sound = kept-none m
  good_macro n bodies (Some macro) path s e ts t state sound = good_taken (sound_within m i n) (bodies_within pick n) bodies path s (stand_for macro.parameters e ts) macro.body t state sound

  good_bodies : (n f : ℕ) (path : Path) (s : State) (e : Places) (ts : Trees) (t : List ℕ) → IsState m s → sound_within m i n f e ts → Good m (bodies_within pick n f path (world_in m s i) e ts t)
  good_bodies zero f path s e ts t state sound = kept-none m
  good_bodies (suc n) f path s e ts t state sound = good_macro n (good_bodies n) (slice_get m.rules f) path s e ts t state sound

  -- what a sound rule gives is kept
  pub kept-by : (n : ℕ) (path : Path) (s : State) (e : Places) (rule : Rule) (t r : List ℕ) (u : UpdateSet) → IsState m s → IsSoundIn m i (sound_within m i n) e rule → taken pick (bodies_within pick n) path (world_in m s i) e rule t ≡ Yields u r → AreKept m u
  kept-by n path s e rule t r u state sound is = given m (taken pick (bodies_within pick n) path (world_in m s i) e rule t) u r (good_taken (sound_within m i n) (bodies_within pick n) (good_bodies n) path s e rule t state sound) is

-- under choice words
pub kept-taken : (m : Machine) (i : Input) (n : ℕ) (path : Path) (s : State) (e : Places) (rule : Rule) (t r : List ℕ) (u : UpdateSet) → IsState m s → IsSoundIn m i (sound_within m i n) e rule → taken by_words (bodies_within by_words n) path (world_in m s i) e rule t ≡ Yields u r → AreKept m u
kept-taken m i = kept-by m i by_words word_picks
