-- A term in which no interval is refused is exact: every number that its evaluation meets is small.
use Rattle.std.proofs.Common.{◌≡◌, ℕ, zero, suc, Bool as Truth, true, false, ◌&&◌, nat_eq, List, [], ◌∷◌, Option, Some, None, slice_get, refl, ap, sym, ◌∙◌, subst, MatchBool, Contains, arith, length, map, eq-eqb}
use Rattle.std.specs.Prelude.{⊤}
use Rattle.std.specs.List.{AllZip, list_any}
use Rattle.std.proofs.lemmas.Option.{slice_get-get_or}
use Rattle.std.proofs.lemmas.List.Folds.{list_any_at}
use Rattle.std.specs.Ordering.{is_eq}
use Rattle.std.specs.Cmp.{tied_itself}
use Rattle.std.proofs.lemmas.Cmp.{int_cmp_total}
use Rattle.asm_domain.specs.declared.value.Value.{Value}
use Rattle.asm_domain.specs.declared.value.Value.TheVariants.{Undef, Bool, Int, Elem}
use Rattle.asm_sign.specs.declared.function.Function.{Function}
use Rattle.asm_sign.specs.Arguments.{elements_at}
use Rattle.asm_sign.specs.Vocabulary.{Vocabulary}
use Rattle.asm_sign.proofs.Picks.{in_tuples_picks}
use Rattle.asm_node.specs.declared.term.Binder.{Binder}
use Rattle.asm_node.specs.Tree.{Tree, Const, Var, Within, Get, Oper, Cond, Let, Quant, Trees, none, more}
use Rattle.asm_node.specs.Values.{is_element, result_of, are_arguments, same, whole}
use Rattle.asm_node.specs.Machine.{Definition, definition_of, tuples_of}
use Rattle.asm_node.specs.Term.{World, Gives, Reads, Calls, unbound, with_value, with_tuple, parameters_have, value_of, values_of, calls_within, calls_of}
use Rattle.asm_node.specs.Exact.{Each, but, but_all, nothing, OfCalls, IsOfCall, IsExactIn, AreExactIn, IsExactBody, exact_within, IsExact}
use Rattle.asm_node.specs.Filled.{IsFilled}
use Rattle.asm_node.specs.Ranges.{Range, IsIn, Ranges, no_ranges, put_range, AreBound, AreParameters, HasRange, HaveRanges, IsRanged, AreDefinitionsRanged}
use Rattle.asm_node.proofs.Ranging.{small_in, element_in, AreIn, result_in}
use Rattle.asm_node.proofs.Valued.{Answers, answer_is, ReadsIn, CallsIn, value_in, values_in, put_reads, calls_in}

pub same_itself : (v : Value) → same v v ≡ true
same_itself Undef = refl
same_itself (Bool true) = refl
same_itself (Bool false) = refl
same_itself (Int x) = ap is_eq (tied_itself int_cmp_total x)
same_itself (Elem d k) = ap (λ b. b && nat_eq k k) (eq-eqb d d refl) ∙ eq-eqb k k refl

but_each : (x : ℕ) (each : Each) → ((y : ℕ) → each y) → (y : ℕ) → but x each y
but_each x each h y = elim (nat_eq x y) as (λ (b : Truth). MatchBool b ⊤ (each y)) [ true ↦ tt | false ↦ h y ]

but_all_each : (bs : List Binder) (each : Each) → ((y : ℕ) → each y) → (y : ℕ) → but_all bs each y
but_all_each [] each h = h
but_all_each (b ∷ bs) each h = but_each b.variable (but_all bs each) (but_all_each bs each h)

module _ (w : World) (filled : IsFilled w) where
  abbrev signature : Vocabulary
  signature = w.machine.signature

  -- equal ranges of variables
  same_reads : (inner outer : Ranges) (reads : Reads) → ((y : ℕ) → inner y ≡ outer y) → ReadsIn w filled outer reads → ReadsIn w filled inner reads
  same_reads inner outer reads e h y = subst (λ (s : Range). Answers (IsIn s) (reads y)) (sym (e y)) (h y)

  -- a tuple's values are elements of the binders' domains
  abbrev pub AreElements : List Binder → List Value → Type 0
  AreElements [] vs = ⊤
  AreElements (b ∷ bs) [] = ⊤
  AreElements (b ∷ bs) (v ∷ vs) = (is_element signature.domains b.domain v ≡ true) × AreElements bs vs

  tuple_reads : (bs : List Binder) (vs : List Value) (rs inner : Ranges) (reads : Reads) → AreElements bs vs → AreBound signature bs rs inner → ReadsIn w filled rs reads → length vs ≡ length bs → ReadsIn w filled inner (with_tuple bs vs reads)
  tuple_reads [] vs rs inner reads a h i e = same_reads inner rs reads h i
  tuple_reads (b ∷ bs) [] rs inner reads a h i e = absurd (omega (arith, e))
  tuple_reads (b ∷ bs) (v ∷ vs) rs inner reads a h i e =
      same_reads inner (put_range b.variable h.0 h.1) (with_value b.variable v (with_tuple bs vs reads)) h.4
      (put_reads w filled b.variable h.0 h.1 v (with_tuple bs vs reads) (element_in signature b.domain h.0 v h.2 a.0) (tuple_reads bs vs rs h.1 reads a.1 h.3 i (omega (arith, e))))

  parameter_reads : (xs ds : List ℕ) (vs : List Value) (inner : Ranges) → AreParameters signature xs ds inner → are_arguments signature.domains ds vs ≡ true → ReadsIn w filled inner (parameters_have xs vs)
  parameter_reads [] ds vs inner h a = λ y. tt
  parameter_reads (x ∷ xs) [] [] inner h a = λ y. tt
  parameter_reads (x ∷ xs) [] (v ∷ vs) inner h a = absurd (cc (a))
  parameter_reads (x ∷ xs) (d ∷ ds) [] inner h a = absurd (cc (a))
  parameter_reads (x ∷ xs) (d ∷ ds) (v ∷ vs) inner h a =
      same_reads inner (put_range x h.0 h.1) (with_value x v (parameters_have xs vs)) h.4
      (put_reads w filled x h.0 h.1 v (parameters_have xs vs) (element_in signature d h.0 v h.2 (first _ _ a)) (parameter_reads xs ds vs h.1 h.3 (second _ _ a)))
    where
      first : (p q : Truth) → (p && q) ≡ true → p ≡ true
      first true q e = refl
      first false q e = e

      second : (p q : Truth) → (p && q) ≡ true → q ≡ true
      second true q e = e
      second false q e = absurd (cc (e))

  -- ---- elements

  any_of : (v : Value) (ws : List Value) → Contains ws v → list_any (λ u. same u v) ws ≡ true
  any_of v ws c = list_any_at (λ u. same u v) ws c.0 v c.1 (rw c.2 (same_itself v))

  among : (d : ℕ) (v : Value) → nat_eq d whole ≡ false → Contains (elements_at signature.domains d) v → is_element signature.domains d v ≡ true
  among d v e c = rw e (any_of v (elements_at signature.domains d) c)

  -- the domains of binders are finite
  abbrev pub AreFinite : List Binder → Type 0
  AreFinite [] = ⊤
  AreFinite (b ∷ bs) = (nat_eq b.domain whole ≡ false) × AreFinite bs

  pub bound_finite : (bs : List Binder) (rs inner : Ranges) → AreBound signature bs rs inner → AreFinite bs
  bound_finite [] rs inner h = tt
  bound_finite (b ∷ bs) rs inner h = (h.5, bound_finite bs rs h.1 h.3)

  pub picked_elements : (bs : List Binder) (vs : List Value) → AreFinite bs → AllZip (λ x xs. Contains xs x) vs (map (λ (b : Binder). elements_at signature.domains b.domain) bs) → AreElements bs vs × (length vs ≡ length bs)
  picked_elements [] [] f h = (tt, refl)
  picked_elements [] (v ∷ vs) f h = absurd h
  picked_elements (b ∷ bs) [] f h = absurd h
  picked_elements (b ∷ bs) (v ∷ vs) f h = let p = picked_elements bs vs f.1 h.1 in ((among b.domain v f.0 h.0, p.0), ap suc p.1)

  module _ (calls : Calls) (of_calls : OfCalls) (ins : CallsIn w filled calls)
      (exact_calls : (f : ℕ) (function : Function) (vs : List Value) → slice_get signature.functions f ≡ Some function → are_arguments signature.domains function.domains vs ≡ true → of_calls f vs) where
    of_call : (f : ℕ) (function : Option Function) (vs : List Value) → slice_get signature.functions f ≡ function → IsOfCall w of_calls f function vs
    of_call f None vs is = tt
    of_call f (Some function) vs is = λ a. exact_calls f function vs is a

    mutual
      pub exact_in : (t : Tree) (rs : Ranges) (reads : Reads) (each : Each) (r : Range) → ReadsIn w filled rs reads → ((y : ℕ) → each y) → HasRange signature rs t r → IsExactIn w calls of_calls reads each t
      exact_in (Const v) rs reads each r i e h = tt
      exact_in (Var x) rs reads each r i e h = e x
      exact_in (Within d t) rs reads each r i e h = exact_in t rs reads each h.0.0 i e h.0.1
      exact_in (Get f ts) rs reads each r i e h = (all_exact_in ts rs reads each h.0.0 i e h.0.1, λ vs g. of_call f (slice_get signature.functions f) vs refl)
      exact_in (Oper o ts) rs reads each r i e h =
          (all_exact_in ts rs reads each h.0 i e h.1, λ vs g. small_in r (result_of o vs) h.3 (result_in o r h.0 vs (answer_is (AreIn h.0) (values_of w calls reads ts) vs (values_in w filled calls ins ts rs reads h.0 i h.1) g) h.2))
      exact_in (Cond g t u) rs reads each r i e h =
          (exact_in g rs reads each h.0.0 i e h.0.1, exact_in t rs reads each h.1.0 i e h.1.2, exact_in u rs reads each h.1.1 i e h.1.3)
      exact_in (Let x t u) rs reads each r i e h = (
        exact_in t rs reads each h.0 i e h.1,
        λ v g. exact_in u (put_range x h.0 rs) (with_value x v reads) (but x each) r
            (put_reads w filled x h.0 rs v reads (answer_is (IsIn h.0) (value_of w calls reads t) v (value_in w filled calls ins t rs reads h.0 i h.1) g) i) (but_each x each e) h.2,
      )
      exact_in (Quant q bs g) rs reads each r i e h =
          λ vs c. (let p = picked_elements bs vs (bound_finite bs rs h.0.0 h.0.2) (in_tuples_picks (map (λ (b : Binder). elements_at signature.domains b.domain) bs) c.0 vs (listed vs c)) in
          exact_in g h.0.0 (with_tuple bs vs reads) (but_all bs each) h.0.1 (tuple_reads bs vs rs h.0.0 reads p.0 h.0.2 i p.1) (but_all_each bs each e) h.0.3)
        where
          listed : (vs : List Value) (c : Contains (tuples_of signature bs) vs) → slice_get (tuples_of signature bs) c.0 ≡ Some vs
          listed vs c = slice_get-get_or (tuples_of signature bs) c.0 vs c.1 ∙ ap Some c.2

      pub all_exact_in : (ts : Trees) (rs : Ranges) (reads : Reads) (each : Each) (ss : List Range) → ReadsIn w filled rs reads → ((y : ℕ) → each y) → HaveRanges signature rs ts ss → AreExactIn w calls of_calls reads each ts
      all_exact_in none rs reads each [] i e h = tt
      all_exact_in none rs reads each (s ∷ ss) i e h = absurd h
      all_exact_in (more t ts) rs reads each [] i e h = absurd h
      all_exact_in (more t ts) rs reads each (s ∷ ss) i e h = (exact_in t rs reads each s i e h.0, all_exact_in ts rs reads each ss i e h.1)

  -- ---- definitions, and terms over what stands for their variables

  module _ (ranged : AreDefinitionsRanged w.machine) where
    pub exact_calls : (n : ℕ) (f : ℕ) (function : Function) (vs : List Value) → slice_get signature.functions f ≡ Some function → are_arguments signature.domains function.domains vs ≡ true → exact_within w n f vs
    exact_calls zero f function vs is a = tt
    exact_calls (suc n) f function vs is a = of_definition (exact_calls n) (definition_of w.machine.definitions f) refl
      where
        of_definition : ((f : ℕ) (function : Function) (vs : List Value) → slice_get signature.functions f ≡ Some function → are_arguments signature.domains function.domains vs ≡ true → exact_within w n f vs) → (o : Option Definition) → definition_of w.machine.definitions f ≡ o → IsExactBody w (calls_within w n) (exact_within w n) o vs
        of_definition inner None e = tt
        of_definition inner (Some d) e =
            (let p = ranged f function d is e in
            exact_in (calls_within w n) (exact_within w n) (calls_in w filled n) inner d.body p.0 (parameters_have d.parameters vs) nothing p.2.0
            (parameter_reads d.parameters function.domains vs p.0 p.1 a) (λ y. tt) p.2.1)

    -- a closed term in which no interval is refused
    pub is_exact : (t : Tree) → IsRanged signature no_ranges t → IsExact w t
    is_exact t h = exact_in (calls_of w) (exact_within w 32) (calls_in w filled 32) (exact_calls 32) t no_ranges unbound nothing h.0 (λ y. tt) (λ y. tt) h.1

    -- its value is no number, or one of its range
    pub value_is_in : (t : Tree) (r : Range) → HasRange signature no_ranges t r → (v : Value) → value_of w (calls_of w) unbound t ≡ Gives v → IsIn r v
    value_is_in t r h v e = answer_is (IsIn r) (value_of w (calls_of w) unbound t) v (value_in w filled (calls_of w) (calls_in w filled 32) t no_ranges unbound r (λ y. tt) h) e
