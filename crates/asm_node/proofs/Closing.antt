-- A term with closed terms in the places of its variables has the value of the term, and where it is exact the term is.
use Rattle.std.proofs.Common.{◌≡◌, ℕ, zero, suc, true, false, if◌then◌else◌, List, [], ◌∷◌, ◌++◌, map, length, nat_eq, slice_get, T, eqb→eq, refl, sym, ap, ◌∙◌, subst, ◌⊎◌, inl, inr, arith}
use Rattle.std.specs.Bool.{⊤}
use Rattle.std.specs.Prelude.{MatchBool, Contains}
use Rattle.std.specs.List.{flat_map}
use Rattle.asm_domain.specs.declared.value.Value.{Value}
use Rattle.asm_domain.specs.declared.value.Value.TheVariants.{Undef}
use Rattle.asm_sign.specs.Arguments.{elements_at}
use Rattle.asm_node.specs.declared.term.Binder.{Binder}
use Rattle.asm_node.specs.Tree.{Tree, Const, Var, Within, Get, Oper, Cond, Let, Quant, Trees, none, more}
use Rattle.asm_node.specs.Values.{result_of, quantified, within}
use Rattle.asm_node.specs.Machine.{tuples_of}
use Rattle.asm_node.specs.Term.{World, Calls, Reads, Outcome, Gives, and_then, unbound, with_value, with_tuple, branch, read, guard_values, value_of, values_of, Places, nowhere, put, keep, close, close_all}
use Rattle.asm_node.specs.Exact.{Each, but, but_all, nothing, OfCalls, IsExactIn, AreExactIn}
use Rattle.asm_node.proofs.Closed.{IsClosed}

-- all items of a list have a length
abbrev pub HaveLength : {A : Type 0} → ℕ → List (List A) → Type 0
HaveLength n [] = ⊤
HaveLength n (t ∷ ts) = (length t ≡ n) × HaveLength n ts

have-append : {A : Type 0} (n : ℕ) (xs ys : List (List A)) → HaveLength n xs → HaveLength n ys → HaveLength n (xs ++ ys)
have-append n [] ys first second = second
have-append n (x ∷ xs) ys first second = (first.0, have-append n xs ys first.1 second)

have-before : {A : Type 0} (n : ℕ) (v : A) (ts : List (List A)) → HaveLength n ts → HaveLength (suc n) (map (λ t. v ∷ t) ts)
have-before n v [] have = tt
have-before n v (t ∷ ts) have = (ap suc have.0, have-before n v ts have.1)

have-all : {A : Type 0} (n : ℕ) (vs : List A) (ts : List (List A)) → HaveLength n ts → HaveLength (suc n) (flat_map (λ v. map (λ t. v ∷ t) ts) vs)
have-all n [] ts have = tt
have-all n (v ∷ vs) ts have = have-append (suc n) (map (λ t. v ∷ t) ts) (flat_map (λ v. map (λ t. v ∷ t) ts) vs) (have-before n v ts have) (have-all n vs ts have)

-- a tuple has a value for each binder
pub tuples-length : (w : World) (bs : List Binder) → HaveLength (length bs) (tuples_of w.machine.signature bs)
tuples-length w [] = (refl, tt)
tuples-length w (b ∷ bs) = have-all (length bs) (elements_at w.machine.signature.domains b.domain) (tuples_of w.machine.signature bs) (tuples-length w bs)

pub length-at : {A : Type 0} (n : ℕ) (ts : List (List A)) (t : List A) → HaveLength n ts → Contains ts t → length t ≡ n
length-at n [] t have at = absurd (omega (arith, at.1))
length-at n (x ∷ ts) t have (zero, lt, is) = ap length (sym is) ∙ have.0
length-at n (x ∷ ts) t have (suc k, lt, is) = length-at n ts t have.1 (k, omega (arith, lt), is)

guards-same : (n : ℕ) (guard guard' : List Value → Outcome Value) (ts : List (List Value)) → HaveLength n ts → ((vs : List Value) → length vs ≡ n → guard vs ≡ guard' vs) → guard_values guard ts ≡ guard_values guard' ts
guards-same n guard guard' [] have same = refl
guards-same n guard guard' (t ∷ ts) have same = λ i. and_then (same t have.0 i) (λ v. and_then (guards-same n guard guard' ts have.1 same i) (λ vs. Gives (v ∷ vs)))

module _ (w : World) (calls : Calls) where
  -- a variable stays and reads as before, or its place has the value in whatever the variables read as
  abbrev pub Fits : Places → Reads → Reads → Type 0
  Fits e inner outer = (y : ℕ) → ((e y ≡ Var y) × (inner y ≡ outer y)) ⊎ ((r : Reads) → value_of w calls r (e y) ≡ outer y)

  pub fits-bound : (e : Places) (inner outer : Reads) (x : ℕ) (v : Value) → Fits e inner outer → Fits (put x (Var x) e) (with_value x v inner) (with_value x v outer)
  fits-bound e inner outer x v fits y =
      elim (nat_eq x y) as (λ b. nat_eq x y ≡ b → ((◌≡◌ {A = Tree} (if b then Var x else e y) (Var y)) × (◌≡◌ {A = Outcome Value} (if b then Gives v else inner y) (if b then Gives v else outer y))) ⊎ ((r : Reads) → value_of w calls r (if b then Var x else e y) ≡ (if b then Gives v else outer y))) [
        | true ↦ λ is. inl (ap Var (eqb→eq x y (subst T (sym is) tt)), refl)
        | false ↦ λ is. fits y
      ] refl

  pub fits-tuple : (e : Places) (inner outer : Reads) (bs : List Binder) (vs : List Value) → length vs ≡ length bs → Fits e inner outer → Fits (keep bs e) (with_tuple bs vs inner) (with_tuple bs vs outer)
  fits-tuple e inner outer [] [] long fits = fits
  fits-tuple e inner outer [] (v ∷ vs) long fits = absurd (omega (arith, long))
  fits-tuple e inner outer (b ∷ bs) [] long fits = absurd (omega (arith, long))
  fits-tuple e inner outer (b ∷ bs) (v ∷ vs) long fits =
      fits-bound (keep bs e) (with_tuple bs vs inner) (with_tuple bs vs outer) b.variable v (fits-tuple e inner outer bs vs (omega (arith, long)) fits)

  mutual
    pub value_of-close : (e : Places) (inner outer : Reads) (t : Tree) → Fits e inner outer → value_of w calls inner (close e t) ≡ value_of w calls outer t
    value_of-close e inner outer (Const v) fits = refl
    value_of-close e inner outer (Var x) fits =
        elim (fits x) as (λ _. value_of w calls inner (e x) ≡ outer x) [ inl stays ↦ ap (value_of w calls inner) stays.0 ∙ stays.1 | inr closed ↦ closed inner ]
    value_of-close e inner outer (Within d t) fits = ap (λ o. and_then o (λ v. Gives (within w.machine.signature.domains d v))) (value_of-close e inner outer t fits)
    value_of-close e inner outer (Get f ts) fits = ap (λ o. and_then o (read w calls f (slice_get w.machine.signature.functions f))) (values_of-close e inner outer ts fits)
    value_of-close e inner outer (Oper o ts) fits = ap (λ p. and_then p (λ vs. Gives (result_of o vs))) (values_of-close e inner outer ts fits)
    value_of-close e inner outer (Cond g t u) fits = λ i. and_then (value_of-close e inner outer g fits i) (λ v. branch v (value_of-close e inner outer t fits i) (value_of-close e inner outer u fits i) (Gives Undef))
    value_of-close e inner outer (Let x t u) fits = λ i. and_then (value_of-close e inner outer t fits i) (λ v. value_of-close (put x (Var x) e) (with_value x v inner) (with_value x v outer) u (fits-bound e inner outer x v fits) i)
    value_of-close e inner outer (Quant q bs g) fits =
        ap (λ o. and_then o (λ vs. Gives (quantified q vs)))
        (guards-same (length bs) _ _ (tuples_of w.machine.signature bs) (tuples-length w bs) (λ vs long. value_of-close (keep bs e) (with_tuple bs vs inner) (with_tuple bs vs outer) g (fits-tuple e inner outer bs vs long fits)))

    pub values_of-close : (e : Places) (inner outer : Reads) (ts : Trees) → Fits e inner outer → values_of w calls inner (close_all e ts) ≡ values_of w calls outer ts
    values_of-close e inner outer none fits = refl
    values_of-close e inner outer (more t ts) fits = λ i. and_then (value_of-close e inner outer t fits i) (λ v. and_then (values_of-close e inner outer ts fits i) (λ vs. Gives (v ∷ vs)))

  -- what variables read as changes no closed term
  pub closed-value : (t : Tree) → IsClosed t → (r s : Reads) → value_of w calls r t ≡ value_of w calls s t
  closed-value t closed r s = ap (value_of w calls r) (sym (closed nowhere)) ∙ value_of-close nowhere r unbound t (λ y. inr (λ _. refl)) ∙ sym (ap (value_of w calls s) (sym (closed nowhere)) ∙ value_of-close nowhere s unbound t (λ y. inr (λ _. refl)))

  module _ (of_calls : OfCalls) where
    -- terms of some kind are exact whatever their variables read as, if they are so at all
    abbrev pub Passes : (Tree → Type 0) → Type 1
    Passes IsOfKind = (r : Reads) (each : Each) (t : Tree) → IsOfKind t → IsExactIn w calls of_calls r each t → IsExactIn w calls of_calls unbound nothing t

    module _ (IsOfKind : Tree → Type 0) (passes : Passes IsOfKind) where
      -- a variable stays, or a term of the kind is in its place
      abbrev pub FitsExact : Places → Each → Each → Type 0
      FitsExact e inside outside = (y : ℕ) → ((e y ≡ Var y) × (inside y → outside y)) ⊎ (IsOfKind (e y) × (IsExactIn w calls of_calls unbound nothing (e y) → outside y))

      exact-bound : (e : Places) (inside outside : Each) (x : ℕ) → FitsExact e inside outside → FitsExact (put x (Var x) e) (but x inside) (but x outside)
      exact-bound e inside outside x fits y =
          elim (nat_eq x y) as (λ b. nat_eq x y ≡ b → ((◌≡◌ {A = Tree} (if b then Var x else e y) (Var y)) × (MatchBool b ⊤ (inside y) → MatchBool b ⊤ (outside y))) ⊎ (IsOfKind (if b then Var x else e y) × (IsExactIn w calls of_calls unbound nothing (if b then Var x else e y) → MatchBool b ⊤ (outside y)))) [
            | true ↦ λ is. inl (ap Var (eqb→eq x y (subst T (sym is) tt)), λ _. tt)
            | false ↦ λ is. fits y
          ] refl

      exact-tuple : (e : Places) (inside outside : Each) (bs : List Binder) → FitsExact e inside outside → FitsExact (keep bs e) (but_all bs inside) (but_all bs outside)
      exact-tuple e inside outside [] fits = fits
      exact-tuple e inside outside (b ∷ bs) fits = exact-bound (keep bs e) (but_all bs inside) (but_all bs outside) b.variable (exact-tuple e inside outside bs fits)

      mutual
        pub exact-close : (e : Places) (inner outer : Reads) (inside outside : Each) (t : Tree) → Fits e inner outer → FitsExact e inside outside → IsExactIn w calls of_calls inner inside (close e t) → IsExactIn w calls of_calls outer outside t
        exact-close e inner outer inside outside (Const v) fits exact is = tt
        exact-close e inner outer inside outside (Var x) fits exact is =
            elim (exact x) as (λ _. outside x) [
              | inl stays ↦ stays.1 (subst (IsExactIn w calls of_calls inner inside) stays.0 is)
              | inr kind ↦ kind.1 (passes inner inside (e x) kind.0 is)
            ]
        exact-close e inner outer inside outside (Within d t) fits exact is = exact-close e inner outer inside outside t fits exact is
        exact-close e inner outer inside outside (Get f ts) fits exact is = (exact_all-close e inner outer inside outside ts fits exact is.0, λ vs gives. is.1 vs (values_of-close e inner outer ts fits ∙ gives))
        exact-close e inner outer inside outside (Oper o ts) fits exact is = (exact_all-close e inner outer inside outside ts fits exact is.0, λ vs gives. is.1 vs (values_of-close e inner outer ts fits ∙ gives))
        exact-close e inner outer inside outside (Cond g t u) fits exact is =
            (exact-close e inner outer inside outside g fits exact is.0, exact-close e inner outer inside outside t fits exact is.1, exact-close e inner outer inside outside u fits exact is.2)
        exact-close e inner outer inside outside (Let x t u) fits exact is = (
          exact-close e inner outer inside outside t fits exact is.0,
          λ v gives. exact-close (put x (Var x) e) (with_value x v inner) (with_value x v outer) (but x inside) (but x outside) u (fits-bound e inner outer x v fits) (exact-bound e inside outside x exact) (is.1 v (value_of-close e inner outer t fits ∙ gives)),
        )
        exact-close e inner outer inside outside (Quant q bs g) fits exact is = λ vs at.
            exact-close (keep bs e) (with_tuple bs vs inner) (with_tuple bs vs outer) (but_all bs inside) (but_all bs outside) g
            (fits-tuple e inner outer bs vs (length-at (length bs) (tuples_of w.machine.signature bs) vs (tuples-length w bs) at) fits) (exact-tuple e inside outside bs exact) (is vs at)

        pub exact_all-close : (e : Places) (inner outer : Reads) (inside outside : Each) (ts : Trees) → Fits e inner outer → FitsExact e inside outside → AreExactIn w calls of_calls inner inside (close_all e ts) → AreExactIn w calls of_calls outer outside ts
        exact_all-close e inner outer inside outside none fits exact is = tt
        exact_all-close e inner outer inside outside (more t ts) fits exact is = (exact-close e inner outer inside outside t fits exact is.0, exact_all-close e inner outer inside outside ts fits exact is.1)

    passes-undefined : Passes (λ t. t ≡ Const Undef)
    passes-undefined r each t is exact = subst (IsExactIn w calls of_calls unbound nothing) (sym is) tt

    -- nor whether it is exact
    pub closed-exact : Passes IsClosed
    closed-exact r each t closed is =
        exact-close (λ t. t ≡ Const Undef) passes-undefined nowhere r unbound each nothing t (λ y. inr (λ _. refl)) (λ y. inr (refl, λ _. tt)) (subst (IsExactIn w calls of_calls r each) (sym (closed nowhere)) is)

    -- what is to hold of variables may be more than is needed
    weaker-but : (x : ℕ) (each other : Each) → ((y : ℕ) → each y → other y) → (y : ℕ) → but x each y → but x other y
    weaker-but x each other less y = elim (nat_eq x y) as (λ b. MatchBool b ⊤ (each y) → MatchBool b ⊤ (other y)) [ true ↦ λ _. tt | false ↦ less y ]

    weaker-all : (bs : List Binder) (each other : Each) → ((y : ℕ) → each y → other y) → (y : ℕ) → but_all bs each y → but_all bs other y
    weaker-all [] each other less = less
    weaker-all (b ∷ bs) each other less = weaker-but b.variable (but_all bs each) (but_all bs other) (weaker-all bs each other less)

    mutual
      pub weaker : (each other : Each) (r : Reads) (t : Tree) → ((y : ℕ) → each y → other y) → IsExactIn w calls of_calls r each t → IsExactIn w calls of_calls r other t
      weaker each other r (Const v) less is = tt
      weaker each other r (Var x) less is = less x is
      weaker each other r (Within d t) less is = weaker each other r t less is
      weaker each other r (Get f ts) less is = (weaker_all each other r ts less is.0, is.1)
      weaker each other r (Oper o ts) less is = (weaker_all each other r ts less is.0, is.1)
      weaker each other r (Cond g t u) less is = (weaker each other r g less is.0, weaker each other r t less is.1, weaker each other r u less is.2)
      weaker each other r (Let x t u) less is = (weaker each other r t less is.0, λ v gives. weaker (but x each) (but x other) (with_value x v r) u (weaker-but x each other less) (is.1 v gives))
      weaker each other r (Quant q bs g) less is = λ vs at. weaker (but_all bs each) (but_all bs other) (with_tuple bs vs r) g (weaker-all bs each other less) (is vs at)

      pub weaker_all : (each other : Each) (r : Reads) (ts : Trees) → ((y : ℕ) → each y → other y) → AreExactIn w calls of_calls r each ts → AreExactIn w calls of_calls r other ts
      weaker_all each other r none less is = tt
      weaker_all each other r (more t ts) less is = (weaker each other r t less is.0, weaker_all each other r ts less is.1)
