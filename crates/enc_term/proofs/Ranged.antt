-- What a term may have is in its range, and its operators stay small over all combinations of what their arguments may have.
use Rattle.std.proofs.Common.{not, ◌≡◌, ◌∙◌, ◌≤◌, ◌⊎◌, ℕ, zero, suc, Bool as Truth, true, false, ◌||◌, ◌&&◌, nat_eq, if◌then◌else◌, List, [], ◌∷◌, length, map, Option, Some, None, slice_get, arith, refl, ap, sym, subst, inl, inr}
use Rattle.std.specs.Bool.{⊤}
use Rattle.std.specs.Prelude.{MatchBool}
use Rattle.std.specs.List.{flat_map, list_any, position}
use Rattle.std.specs.Option.{unwrap_or, option_map}
use Rattle.std.proofs.lemmas.Bool.{eqb-true}
use Rattle.asm_domain.specs.declared.value.Value.{Value}
use Rattle.asm_domain.specs.declared.value.Value.TheVariants.{Undef, Bool, Int, Elem}
use Rattle.asm_domain.specs.Universe.{Universe, Truths, Numbers, Named}
use Rattle.asm_sign.specs.declared.function.DeclaredDomain.{DeclaredDomain}
use Rattle.asm_sign.specs.declared.function.Function.{Function}
use Rattle.asm_sign.specs.Arguments.{elements_at}
use Rattle.asm_sign.specs.Kind.{is_dynamic, is_kept}
use Rattle.asm_sign.specs.Tuples.{tuples}
use Rattle.asm_sign.specs.Vocabulary.{Vocabulary}
use Rattle.asm_node.specs.declared.term.Binder.{Binder}
use Rattle.asm_node.specs.Tree.{Tree, Const, Var, Within, Get, Oper, Cond, Let, Quant, Trees, none, more}
use Rattle.asm_node.specs.Values.{is_whole, within, result_of, are_arguments, is_truth, same, whole}
use Rattle.asm_node.specs.Machine.{Machine, Definition, definition_of, constant_of, element_named, same_name, tuples_of}
use Rattle.asm_node.specs.Exact.{Each, but, but_all, nothing, OfCalls}
use Rattle.asm_node.specs.Term.{Places, branch, put, put_tuple}
use Rattle.asm_node.specs.Ranges.{Range, IsIn, numbers_in_either, Ranges, no_ranges, put_range, IsConstantRange, IsDomainRange, IsCodomainRange, AreBound, AreParameters, HasRange, HaveRanges, IsRanged, AreDefinitionsRanged}
use Rattle.asm_node.proofs.Exactly.{same_itself}
use Rattle.asm_node.proofs.Ranging.{range_in, small_in, element_in, within_in, AreIn, result_in}
use Rattle.enc_term.specs.Can.{Cans, CallCans, Has, ArePicked, only_undef, undef_if, is_bad, with_can, with_cans, parameters_can, can_by, cans_by, calls_can, cans_in, can_in, called_can, dynamic_can, read_can, defined_can, function_can, last_can, can_at_last}
use Rattle.enc_term.specs.Small.{IsOfCall, StaysSmall, StayAllSmall, IsSmallBody, small_within, each_in, StaysSmallIn}
use Rattle.enc_term.specs.Ranged.{FitsRanges}
use Rattle.enc_term.proofs.Members.{has_either, map_has, flat_has}
use Rattle.enc_term.proofs.Standing.{any_has}

-- ---- lists

-- the one value of a list
only : (P : Value → Type 0) (x v : Value) → P x → Has (x ∷ []) v → P v
only P x v p (inl e) = subst P e p
only P x v p (inr empty) = elim empty [ ]

tuple_picked : (xss : List (List Value)) (vs : List Value) → Has (tuples xss) vs → ArePicked xss vs
tuple_picked [] vs (inl e) = subst (ArePicked []) e tt
tuple_picked [] vs (inr empty) = elim empty [ ]
tuple_picked (xs ∷ xss) vs h =
    let s = flat_has (λ x. map (λ t. x ∷ t) (tuples xss)) xs vs h in
    let k = map_has (λ t. s.0 ∷ t) (tuples xss) vs s.2 in
    subst (ArePicked (xs ∷ xss)) k.2 (s.1, tuple_picked xss k.0 k.1)

beyond : (domains : List DeclaredDomain) (d : ℕ) → length domains ≤ d → elements_at domains d ≡ []
beyond [] d few = refl
beyond (x ∷ domains) zero few = absurd (omega (arith, few))
beyond (x ∷ domains) (suc d) few = beyond domains d (omega (arith, few))

-- the branch that a guard takes
branch_has : (x y : Value) (P : Type 0) (ps qs rs : List Value) → (Has ps y → P) → (Has qs y → P) → (Has rs y → P) → Has (branch x ps qs rs) y → P
branch_has Undef y P ps qs rs f g k h = k h
branch_has (Bool true) y P ps qs rs f g k h = f h
branch_has (Bool false) y P ps qs rs f g k h = g h
branch_has (Int z) y P ps qs rs f g k h = k h
branch_has (Elem d e) y P ps qs rs f g k h = k h

undef_of : (b : Truth) (r : Range) (v : Value) → Has (undef_if b) v → IsIn r v
undef_of true r v h = only (IsIn r) Undef v tt h
undef_of false r v h = elim h [ ]

first : (p q : Truth) → (p && q) ≡ true → p ≡ true
first true q e = refl
first false q e = e

second : (p q : Truth) → (p && q) ≡ true → q ≡ true
second true q e = e
second false q e = absurd (cc (e))

but_each : (x : ℕ) (each : Each) → ((y : ℕ) → each y) → (y : ℕ) → but x each y
but_each x each h y = elim (nat_eq x y) as (λ (b : Truth). MatchBool b ⊤ (each y)) [ true ↦ tt | false ↦ h y ]

but_all_each : (bs : List Binder) (each : Each) → ((y : ℕ) → each y) → (y : ℕ) → but_all bs each y
but_all_each [] each h = h
but_all_each (b ∷ bs) each h = but_each b.variable (but_all bs each) (but_all_each bs each h)

constant_in : (r : Range) (domains : List DeclaredDomain) (function : Function) → IsIn r (constant_of domains function)
constant_in r domains function = of_domain (slice_get domains function.codomain)
  where
    of_position : (number : ℕ) (o : Option ℕ) → IsIn r (unwrap_or (option_map (λ rank. Elem number rank) o) Undef)
    of_position number None = tt
    of_position number (Some rank) = tt

    of_universe : (u : Universe) → IsIn r (element_named function.name u)
    of_universe Truths = tt
    of_universe (Numbers xs) = tt
    of_universe (Named number names) = of_position number (position (same_name function.name) names)

    of_domain : (o : Option DeclaredDomain) → IsIn r (unwrap_or (option_map (λ (d : DeclaredDomain). element_named function.name d.domain) o) Undef)
    of_domain None = tt
    of_domain (Some d) = of_universe d.domain

module _ (m : Machine) (few : length m.signature.domains ≤ whole) where
  abbrev signature : Vocabulary
  signature = m.signature

  -- what variables may have is in their ranges
  abbrev pub CansIn : Ranges → Cans → Type 0
  CansIn rs cans = (y : ℕ) (v : Value) → Has (cans y) v → IsIn (rs y) v

  -- what defined functions may give is in the ranges of their codomains
  abbrev pub CallCansIn : CallCans → Type 0
  CallCansIn calls = (f : ℕ) (function : Function) (r : Range) (vs : List Value) → slice_get signature.functions f ≡ Some function → IsDomainRange signature function.codomain r → (v : Value) → Has (calls f vs) v → IsIn r v

  same_cans : (inner outer : Ranges) (cans : Cans) → ((y : ℕ) → inner y ≡ outer y) → CansIn outer cans → CansIn inner cans
  same_cans inner outer cans e h y v has = subst (λ (s : Range). IsIn s v) (sym (e y)) (h y v has)

  none_in : (rs : Ranges) → CansIn rs only_undef
  none_in rs y v h = only (IsIn (rs y)) Undef v tt h

  put_cans : (x : ℕ) (r : Range) (rs : Ranges) (v : Value) (cans : Cans) → IsIn r v → CansIn rs cans → CansIn (put_range x r rs) (with_can x v cans)
  put_cans x r rs v cans i h y w has =
      elim (nat_eq x y) as (λ (b : Truth). Has (if b then v ∷ [] else cans y) w → IsIn (if b then r else rs y) w) [
        | true ↦ λ k. only (IsIn r) v w i k
        | false ↦ λ k. h y w k
      ] has

  element_of : (d : ℕ) (r : Range) (v : Value) → IsDomainRange signature d r → Has (elements_at signature.domains d) v → IsIn r v
  element_of d r v h has =
      elim (nat_eq d whole) as (λ (b : Truth). nat_eq d whole ≡ b → IsIn r v) [
        | true ↦ λ e. elim (subst (λ xs. Has xs v) (beyond signature.domains d (subst (λ n. length signature.domains ≤ n) (sym (eqb-true d whole e)) few)) has) [ ]
        | false ↦ λ e. element_in signature d r v h (ap (λ b. if b then is_whole v else list_any (λ w. same w v) (elements_at signature.domains d)) e ∙ any_has (λ w. same w v) (elements_at signature.domains d) v has (same_itself v))
      ] refl

  tuple_cans : (bs : List Binder) (vs : List Value) (rs inner : Ranges) (cans : Cans) → ArePicked (map (λ (b : Binder). elements_at signature.domains b.domain) bs) vs → AreBound signature bs rs inner → CansIn rs cans → CansIn inner (with_cans bs vs cans)
  tuple_cans [] [] rs inner cans a h i = same_cans inner rs cans h i
  tuple_cans [] (v ∷ vs) rs inner cans a h i = elim a [ ]
  tuple_cans (b ∷ bs) [] rs inner cans a h i = elim a [ ]
  tuple_cans (b ∷ bs) (v ∷ vs) rs inner cans a h i =
      same_cans inner (put_range b.variable h.0 h.1) (with_can b.variable v (with_cans bs vs cans)) h.4
      (put_cans b.variable h.0 h.1 v (with_cans bs vs cans) (element_of b.domain h.0 v h.2 a.0) (tuple_cans bs vs rs h.1 cans a.1 h.3 i))

  parameter_cans : (xs ds : List ℕ) (vs : List Value) (inner : Ranges) → AreParameters signature xs ds inner → are_arguments signature.domains ds vs ≡ true → CansIn inner (parameters_can xs vs)
  parameter_cans [] ds vs inner h a = none_in inner
  parameter_cans (x ∷ xs) [] [] inner h a = none_in inner
  parameter_cans (x ∷ xs) [] (v ∷ vs) inner h a = absurd (cc (a))
  parameter_cans (x ∷ xs) (d ∷ ds) [] inner h a = absurd (cc (a))
  parameter_cans (x ∷ xs) (d ∷ ds) (v ∷ vs) inner h a =
      same_cans inner (put_range x h.0 h.1) (with_can x v (parameters_can xs vs)) h.4
      (put_cans x h.0 h.1 v (parameters_can xs vs) (element_in signature d h.0 v h.2 (first _ _ a)) (parameter_cans xs ds vs h.1 h.3 (second _ _ a)))

  module _ (calls : CallCans) (ins : CallCansIn calls) where
    dynamic_in : (f : ℕ) (function : Function) (r : Range) (vss : List (List Value)) (v : Value) → IsDomainRange signature function.codomain r → Has (dynamic_can signature f function vss) v → IsIn r v
    dynamic_in f function r vss v h has =
        elim (has_either (elements_at signature.domains function.codomain) (undef_if (is_kept function.kind || list_any (is_bad signature f function) vss)) v has) as (λ _. IsIn r v) [
          | inl element ↦ element_of function.codomain r v h element
          | inr undef ↦ undef_of (is_kept function.kind || list_any (is_bad signature f function) vss) r v undef
        ]

    called_in : (f : ℕ) (function : Function) (r : Range) (vs : List Value) (v : Value) → slice_get signature.functions f ≡ Some function → IsDomainRange signature function.codomain r → Has (called_can signature.domains calls f function vs) v → IsIn r v
    called_in f function r vs v is h has =
        elim (are_arguments signature.domains function.domains vs) as (λ (b : Truth). Has (if b then calls f vs else Undef ∷ []) v → IsIn r v) [
          | true ↦ λ k. ins f function r vs is h v k
          | false ↦ λ k. only (IsIn r) Undef v tt k
        ] has

    read_in : (f : ℕ) (o : Option Function) (r : Range) (vss : List (List Value)) (v : Value) → slice_get signature.functions f ≡ o → IsCodomainRange signature o r → Has (read_can m calls f o vss) v → IsIn r v
    read_in f None r vss v is h has = only (IsIn r) Undef v tt has
    read_in f (Some function) r vss v is h has =
        elim (is_dynamic function.kind) as (λ (b : Truth). Has (if b then dynamic_can signature f function vss else flat_map (called_can signature.domains calls f function) vss) v → IsIn r v) [
          | true ↦ λ k. dynamic_in f function r vss v h k
          | false ↦ λ k. (let s = flat_has (called_can signature.domains calls f function) vss v k in called_in f function r s.0 v is h s.2)
        ] has

    constant_is : (x : Value) (r : Range) → IsConstantRange x r → IsIn r x
    constant_is (Int x) r h = range_in _ r (Int x) h (λ z e. (let q : x ≡ z = cc (e) in q))
    constant_is Undef r h = tt
    constant_is (Bool b) r h = tt
    constant_is (Elem d k) r h = tt

    mutual
      -- what a term may have is in its range
      pub can_in_range : (t : Tree) (rs : Ranges) (cans : Cans) (r : Range) → CansIn rs cans → HasRange signature rs t r → (v : Value) → Has (can_by m calls cans t) v → IsIn r v
      can_in_range (Const x) rs cans r i h v has = only (IsIn r) x v (constant_is x r h.0) has
      can_in_range (Var x) rs cans r i h v has = subst (λ (s : Range). IsIn s v) h (i x v has)
      can_in_range (Within d t) rs cans r i h v has =
          let s = map_has (within signature.domains d) (can_by m calls cans t) v has in
          subst (IsIn r) s.2 (within_in signature d r s.0 h.1)
      can_in_range (Get f ts) rs cans r i h v has = read_in f (slice_get signature.functions f) r (tuples (cans_by m calls cans ts)) v refl h.1 has
      can_in_range (Oper o ts) rs cans r i h v has =
          let s = map_has (result_of o) (tuples (cans_by m calls cans ts)) v has in
          subst (IsIn r) s.2 (result_in o r h.0 s.0 (all_in_range ts rs cans h.0 i h.1 s.0 (tuple_picked (cans_by m calls cans ts) s.0 s.1)) h.2)
      can_in_range (Cond g t u) rs cans r i h v has =
          let s = flat_has (λ x. branch x (can_by m calls cans t) (can_by m calls cans u) (Undef ∷ [])) (can_by m calls cans g) v has in
          branch_has s.0 v (IsIn r v) (can_by m calls cans t) (can_by m calls cans u) (Undef ∷ [])
          (λ k. (let j = can_in_range t rs cans h.1.0 i h.1.2 v k in range_in (numbers_in_either h.1.0 h.1.1) r v h.1.4 (λ z e. inl (subst (IsIn h.1.0) e j))))
          (λ k. (let j = can_in_range u rs cans h.1.1 i h.1.3 v k in range_in (numbers_in_either h.1.0 h.1.1) r v h.1.4 (λ z e. inr (subst (IsIn h.1.1) e j))))
          (λ k. only (IsIn r) Undef v tt k) s.2
      can_in_range (Let x t u) rs cans r i h v has =
          let s = flat_has (λ y. can_by m calls (with_can x y cans) u) (can_by m calls cans t) v has in
          can_in_range u (put_range x h.0 rs) (with_can x s.0 cans) r (put_cans x h.0 rs s.0 cans (can_in_range t rs cans h.0 i h.1 s.0 s.1) i) h.2 v s.2
      can_in_range (Quant q bs g) rs cans r i h v (inl is) = subst (IsIn r) is tt
      can_in_range (Quant q bs g) rs cans r i h v (inr (inl is)) = subst (IsIn r) is tt
      can_in_range (Quant q bs g) rs cans r i h v (inr (inr k)) = undef_of (list_any (list_any (λ x. not (is_truth x))) (map (λ vs. can_by m calls (with_cans bs vs cans) g) (tuples_of signature bs))) r v k

      pub all_in_range : (ts : Trees) (rs : Ranges) (cans : Cans) (ss : List Range) → CansIn rs cans → HaveRanges signature rs ts ss → (vs : List Value) → ArePicked (cans_by m calls cans ts) vs → AreIn ss vs
      all_in_range none rs cans [] i h [] p = tt
      all_in_range none rs cans [] i h (v ∷ vs) p = elim p [ ]
      all_in_range none rs cans (s ∷ ss) i h vs p = elim h [ ]
      all_in_range (more t ts) rs cans [] i h vs p = elim h [ ]
      all_in_range (more t ts) rs cans (s ∷ ss) i h [] p = elim p [ ]
      all_in_range (more t ts) rs cans (s ∷ ss) i h (v ∷ vs) p = (can_in_range t rs cans s i h.0 v p.0, all_in_range ts rs cans ss i h.1 vs p.1)

    module _ (of_calls : OfCalls) (small_calls : (f : ℕ) (function : Function) (vs : List Value) → slice_get signature.functions f ≡ Some function → are_arguments signature.domains function.domains vs ≡ true → of_calls f vs) where
      of_call : (f : ℕ) (o : Option Function) (vs : List Value) → slice_get signature.functions f ≡ o → IsOfCall m of_calls f o vs
      of_call f None vs is = tt
      of_call f (Some function) vs is = λ a. small_calls f function vs is a

      mutual
        -- operators stay small where no interval is refused
        pub ranged_small : (t : Tree) (rs : Ranges) (cans : Cans) (each : Each) (r : Range) → CansIn rs cans → ((y : ℕ) → each y) → HasRange signature rs t r → StaysSmall m calls of_calls cans each t
        ranged_small (Const x) rs cans each r i e h = tt
        ranged_small (Var x) rs cans each r i e h = e x
        ranged_small (Within d t) rs cans each r i e h = ranged_small t rs cans each h.0.0 i e h.0.1
        ranged_small (Get f ts) rs cans each r i e h = (all_ranged_small ts rs cans each h.0.0 i e h.0.1, λ vs p. of_call f (slice_get signature.functions f) vs refl)
        ranged_small (Oper o ts) rs cans each r i e h =
            (all_ranged_small ts rs cans each h.0 i e h.1, λ vs p. small_in r (result_of o vs) h.3 (result_in o r h.0 vs (all_in_range ts rs cans h.0 i h.1 vs p) h.2))
        ranged_small (Cond g t u) rs cans each r i e h =
            (ranged_small g rs cans each h.0.0 i e h.0.1, ranged_small t rs cans each h.1.0 i e h.1.2, ranged_small u rs cans each h.1.1 i e h.1.3)
        ranged_small (Let x t u) rs cans each r i e h = (
          ranged_small t rs cans each h.0 i e h.1,
          λ v has. ranged_small u (put_range x h.0 rs) (with_can x v cans) (but x each) r (put_cans x h.0 rs v cans (can_in_range t rs cans h.0 i h.1 v has) i) (but_each x each e) h.2,
        )
        ranged_small (Quant q bs g) rs cans each r i e h = λ vs has.
            ranged_small g h.0.0 (with_cans bs vs cans) (but_all bs each) h.0.1
            (tuple_cans bs vs rs h.0.0 cans (tuple_picked (map (λ (b : Binder). elements_at signature.domains b.domain) bs) vs has) h.0.2 i) (but_all_each bs each e) h.0.3

        pub all_ranged_small : (ts : Trees) (rs : Ranges) (cans : Cans) (each : Each) (ss : List Range) → CansIn rs cans → ((y : ℕ) → each y) → HaveRanges signature rs ts ss → StayAllSmall m calls of_calls cans each ts
        all_ranged_small none rs cans each ss i e h = tt
        all_ranged_small (more t ts) rs cans each [] i e h = elim h [ ]
        all_ranged_small (more t ts) rs cans each (s ∷ ss) i e h = (ranged_small t rs cans each s i e h.0, all_ranged_small ts rs cans each ss i e h.1)

  -- ---- defined functions

  last_in : (function : Function) (r : Range) (o : Option Definition) (v : Value) → Has (last_can m function o) v → IsIn r v
  last_in function r (Some d) v h = only (IsIn r) Undef v tt h
  last_in function r None v h = only (IsIn r) (constant_of signature.domains function) v (constant_in r signature.domains function) h

  defined_in : (calls : CallCans) (function : Function) (r : Range) (vs : List Value) → IsDomainRange signature function.codomain r → (o : Option Definition) (v : Value) → Has (defined_can m calls function o vs) v → IsIn r v
  defined_in calls function r vs h (Some d) v has =
      let s = map_has (within signature.domains function.codomain) (can_by m calls (parameters_can d.parameters vs) d.body) v has in
      subst (IsIn r) s.2 (within_in signature function.codomain r s.0 h)
  defined_in calls function r vs h None v has = only (IsIn r) (constant_of signature.domains function) v (constant_in r signature.domains function) has

  pub calls_in_range : (n : ℕ) → CallCansIn (calls_can m n)
  calls_in_range zero f function r vs is h v has = last_in function r (definition_of m.definitions f) v (subst (λ o. Has (can_at_last m f o) v) is has)
  calls_in_range (suc n) f function r vs is h v has = defined_in (calls_can m n) function r vs h (definition_of m.definitions f) v (subst (λ o. Has (function_can m (calls_can m n) f o vs) v) is has)

  module _ (ranged : AreDefinitionsRanged m) where
    pub small_calls : (n : ℕ) (f : ℕ) (function : Function) (vs : List Value) → slice_get signature.functions f ≡ Some function → are_arguments signature.domains function.domains vs ≡ true → small_within m n f vs
    small_calls zero f function vs is a = tt
    small_calls (suc n) f function vs is a = of_definition (small_calls n) (definition_of m.definitions f) refl
      where
        of_definition : ((f : ℕ) (function : Function) (vs : List Value) → slice_get signature.functions f ≡ Some function → are_arguments signature.domains function.domains vs ≡ true → small_within m n f vs) → (o : Option Definition) → definition_of m.definitions f ≡ o → IsSmallBody m (calls_can m n) (small_within m n) o vs
        of_definition inner None e = tt
        of_definition inner (Some d) e =
            (let p = ranged f function d is e in
            ranged_small (calls_can m n) (calls_in_range n) (small_within m n) inner d.body p.0 (parameters_can d.parameters vs) nothing p.2.0
            (parameter_cans d.parameters function.domains vs p.0 p.1 a) (λ y. tt) p.2.1)

    module _ (n : ℕ) (e : Places) (rs : Ranges) (fits : FitsRanges m e rs) where
      fits_cans : CansIn rs (cans_in m n e)
      fits_cans y v has =
          elim (fits y) as (λ _. IsIn (rs y) v) [
            | inl value ↦ only (IsIn (rs y)) value.0 v value.2 (subst (λ t. Has (can_by m (calls_can m n) only_undef t) v) value.1 has)
            | inr closed ↦ can_in_range (calls_can m n) (calls_in_range n) (e y) no_ranges only_undef (rs y) (none_in no_ranges) closed v has
          ]

      fits_small : (y : ℕ) → each_in m n e y
      fits_small y =
          elim (fits y) as (λ _. each_in m n e y) [
            | inl value ↦ subst (StaysSmall m (calls_can m n) (small_within m n) only_undef nothing) (sym value.1) tt
            | inr closed ↦ ranged_small (calls_can m n) (calls_in_range n) (small_within m n) (small_calls n) (e y) no_ranges only_undef nothing (rs y) (none_in no_ranges) (λ y. tt) closed
          ]

      pub range_of_can : (t : Tree) (r : Range) → HasRange signature rs t r → (v : Value) → Has (can_in m n e t) v → IsIn r v
      range_of_can t r h v has = can_in_range (calls_can m n) (calls_in_range n) t rs (cans_in m n e) r fits_cans h v has

      pub ranged_stays_small : (t : Tree) → IsRanged signature rs t → StaysSmallIn m n e t
      ranged_stays_small t h = ranged_small (calls_can m n) (calls_in_range n) (small_within m n) (small_calls n) t rs (cans_in m n e) (each_in m n e) h.0 fits_cans fits_small h.1

  -- ---- environments

  -- a variable more with a value of its range
  pub fits_put : (x : ℕ) (r : Range) (v : Value) (e : Places) (rs : Ranges) → IsIn r v → FitsRanges m e rs → FitsRanges m (put x (Const v) e) (put_range x r rs)
  fits_put x r v e rs i fits y =
      elim (nat_eq x y) as (λ (b : Truth). ((w : Value) × (◌≡◌ {A = Tree} (if b then Const v else e y) (Const w)) × IsIn (if b then r else rs y) w) ⊎ HasRange signature no_ranges (if b then Const v else e y) (if b then r else rs y)) [
        | true ↦ inl (v, refl, i)
        | false ↦ fits y
      ]

  same_fits : (inner outer : Ranges) (e : Places) → ((y : ℕ) → inner y ≡ outer y) → FitsRanges m e outer → FitsRanges m e inner
  same_fits inner outer e same fits y = subst (λ (s : Range). ((w : Value) × (◌≡◌ {A = Tree} (e y) (Const w)) × IsIn s w) ⊎ HasRange signature no_ranges (e y) s) (sym (same y)) (fits y)

  -- binders at a tuple of their domains
  pub fits_tuple : (bs : List Binder) (vs : List Value) (e : Places) (rs inner : Ranges) → Has (tuples_of signature bs) vs → AreBound signature bs rs inner → FitsRanges m e rs → FitsRanges m (put_tuple bs vs e) inner
  fits_tuple bs vs e rs inner has = picked bs vs rs inner (tuple_picked (map (λ (b : Binder). elements_at signature.domains b.domain) bs) vs has)
    where
      picked : (bs : List Binder) (vs : List Value) (rs inner : Ranges) → ArePicked (map (λ (b : Binder). elements_at signature.domains b.domain) bs) vs → AreBound signature bs rs inner → FitsRanges m e rs → FitsRanges m (put_tuple bs vs e) inner
      picked [] [] rs inner a h fits = same_fits inner rs e h fits
      picked [] (v ∷ vs) rs inner a h fits = elim a [ ]
      picked (b ∷ bs) [] rs inner a h fits = elim a [ ]
      picked (b ∷ bs) (v ∷ vs) rs inner a h fits =
          same_fits inner (put_range b.variable h.0 h.1) (put_tuple (b ∷ bs) (v ∷ vs) e) h.4
          (fits_put b.variable h.0 v (put_tuple bs vs e) h.1 (element_of b.domain h.0 v h.2 a.0) (picked bs vs rs h.1 a.1 h.3 fits))
