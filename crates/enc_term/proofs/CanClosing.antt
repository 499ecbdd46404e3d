-- A term with closed terms in the places of its variables may have what the term may have, and stays small where it does.
use Rattle.std.proofs.Common.{◌≡◌, ℕ, true, false, if◌then◌else◌, List, [], ◌∷◌, map, length, nat_eq, slice_get, T, eqb→eq, refl, sym, ap, ◌∙◌, subst, ◌⊎◌, inl, inr, arith}
use Rattle.std.specs.Bool.{⊤}
use Rattle.std.specs.Prelude.{MatchBool}
use Rattle.std.specs.List.{flat_map}
use Rattle.std.specs.FinMap as finite
use Rattle.asm_domain.specs.declared.value.Value.{Value}
use Rattle.asm_domain.specs.declared.value.Value.TheVariants.{Undef}
use Rattle.asm_sign.specs.Tuples.{tuples}
use Rattle.asm_node.specs.declared.term.Binder.{Binder}
use Rattle.asm_node.specs.Tree.{Tree, Const, Var, Within, Get, Oper, Cond, Let, Quant, Trees, none, more}
use Rattle.asm_node.specs.Values.{result_of, within}
use Rattle.asm_node.specs.Machine.{Machine, no_input, tuples_of}
use Rattle.asm_node.specs.Term.{branch, Places, nowhere, put, keep, close, close_all}
use Rattle.asm_node.specs.Exact.{Each, but, but_all, nothing, OfCalls}
use Rattle.asm_node.proofs.Closed.{IsClosed}
use Rattle.asm_node.proofs.Closing.{HaveLength, tuples-length}
use Rattle.enc_term.specs.Can.{Cans, CallCans, Has, ArePicked, only_undef, with_can, with_cans, can_by, cans_by, read_can, quantified_can}
use Rattle.enc_term.specs.Small.{StaysSmall, StayAllSmall}

-- a tuple has a value for each binder
pub tuples_length : (m : Machine) (bs : List Binder) → HaveLength (length bs) (tuples_of m.signature bs)
tuples_length m bs = tuples-length (record { machine = m; state = finite.empty; input = no_input }) bs

pub length_of : {A : Type 0} (n : ℕ) (ts : List (List A)) (t : List A) → HaveLength n ts → Has ts t → length t ≡ n
length_of n [] t have at = elim at [ ]
length_of n (x ∷ ts) t have (inl is) = ap (λ xs. length xs) (sym is) ∙ have.0
length_of n (x ∷ ts) t have (inr at) = length_of n ts t have.1 at

map_same : {A B : Type 0} (n : ℕ) (f g : List A → B) (ts : List (List A)) → HaveLength n ts → ((t : List A) → length t ≡ n → f t ≡ g t) → map f ts ≡ map g ts
map_same n f g [] have same = refl
map_same n f g (t ∷ ts) have same = λ i. same t have.0 i ∷ map_same n f g ts have.1 same i

module _ (m : Machine) (calls : CallCans) where
  -- a variable stays and may have what it may have, or its place may have that whatever the variables may
  abbrev pub Fits : Places → Cans → Cans → Type 0
  Fits e inner outer = (y : ℕ) → ((e y ≡ Var y) × (inner y ≡ outer y)) ⊎ ((r : Cans) → can_by m calls r (e y) ≡ outer y)

  fits_bound : (e : Places) (inner outer : Cans) (x : ℕ) (v : Value) → Fits e inner outer → Fits (put x (Var x) e) (with_can x v inner) (with_can x v outer)
  fits_bound e inner outer x v fits y =
      elim (nat_eq x y) as (λ b. nat_eq x y ≡ b → ((◌≡◌ {A = Tree} (if b then Var x else e y) (Var y)) × (◌≡◌ {A = List Value} (if b then v ∷ [] else inner y) (if b then v ∷ [] else outer y))) ⊎ ((r : Cans) → can_by m calls r (if b then Var x else e y) ≡ (if b then v ∷ [] else outer y))) [
        | true ↦ λ is. inl (ap Var (eqb→eq x y (subst T (sym is) tt)), refl)
        | false ↦ λ is. fits y
      ] refl

  fits_tuple : (e : Places) (inner outer : Cans) (bs : List Binder) (vs : List Value) → length vs ≡ length bs → Fits e inner outer → Fits (keep bs e) (with_cans bs vs inner) (with_cans bs vs outer)
  fits_tuple e inner outer [] [] long fits = fits
  fits_tuple e inner outer [] (v ∷ vs) long fits = absurd (omega (arith, long))
  fits_tuple e inner outer (b ∷ bs) [] long fits = absurd (omega (arith, long))
  fits_tuple e inner outer (b ∷ bs) (v ∷ vs) long fits =
      fits_bound (keep bs e) (with_cans bs vs inner) (with_cans bs vs outer) b.variable v (fits_tuple e inner outer bs vs (omega (arith, long)) fits)

  mutual
    pub can_close : (e : Places) (inner outer : Cans) (t : Tree) → Fits e inner outer → can_by m calls inner (close e t) ≡ can_by m calls outer t
    can_close e inner outer (Const v) fits = refl
    can_close e inner outer (Var x) fits =
        elim (fits x) as (λ _. can_by m calls inner (e x) ≡ outer x) [ inl stays ↦ ap (can_by m calls inner) stays.0 ∙ stays.1 | inr closed ↦ closed inner ]
    can_close e inner outer (Within d t) fits = ap (map (within m.signature.domains d)) (can_close e inner outer t fits)
    can_close e inner outer (Get f ts) fits = ap (λ xss. read_can m calls f (slice_get m.signature.functions f) (tuples xss)) (cans_close e inner outer ts fits)
    can_close e inner outer (Oper o ts) fits = ap (λ xss. map (result_of o) (tuples xss)) (cans_close e inner outer ts fits)
    can_close e inner outer (Cond g t u) fits = λ i. flat_map (λ v. branch v (can_close e inner outer t fits i) (can_close e inner outer u fits i) (Undef ∷ [])) (can_close e inner outer g fits i)
    can_close e inner outer (Let x t u) fits = λ i. flat_map (λ v. can_close (put x (Var x) e) (with_can x v inner) (with_can x v outer) u (fits_bound e inner outer x v fits) i) (can_close e inner outer t fits i)
    can_close e inner outer (Quant q bs g) fits =
        ap quantified_can
        (map_same (length bs) _ _ (tuples_of m.signature bs) (tuples_length m bs) (λ vs long. can_close (keep bs e) (with_cans bs vs inner) (with_cans bs vs outer) g (fits_tuple e inner outer bs vs long fits)))

    pub cans_close : (e : Places) (inner outer : Cans) (ts : Trees) → Fits e inner outer → cans_by m calls inner (close_all e ts) ≡ cans_by m calls outer ts
    cans_close e inner outer none fits = refl
    cans_close e inner outer (more t ts) fits = λ i. can_close e inner outer t fits i ∷ cans_close e inner outer ts fits i

  -- what variables may have changes no closed term
  pub closed_can : (t : Tree) → IsClosed t → (r s : Cans) → can_by m calls r t ≡ can_by m calls s t
  closed_can t closed r s = ap (can_by m calls r) (sym (closed nowhere)) ∙ can_close nowhere r only_undef t (λ y. inr (λ _. refl)) ∙ sym (ap (can_by m calls s) (sym (closed nowhere)) ∙ can_close nowhere s only_undef t (λ y. inr (λ _. refl)))

  module _ (of_calls : OfCalls) where
    -- terms of some kind stay small whatever their variables may have, if they do so at all
    abbrev Passes : (Tree → Type 0) → Type 1
    Passes IsOfKind = (r : Cans) (each : Each) (t : Tree) → IsOfKind t → StaysSmall m calls of_calls r each t → StaysSmall m calls of_calls only_undef nothing t

    module _ (IsOfKind : Tree → Type 0) (passes : Passes IsOfKind) where
      -- a variable stays, or a term of the kind is in its place
      abbrev FitsSmall : Places → Each → Each → Type 0
      FitsSmall e inside outside = (y : ℕ) → ((e y ≡ Var y) × (inside y → outside y)) ⊎ (IsOfKind (e y) × (StaysSmall m calls of_calls only_undef nothing (e y) → outside y))

      small_bound : (e : Places) (inside outside : Each) (x : ℕ) → FitsSmall e inside outside → FitsSmall (put x (Var x) e) (but x inside) (but x outside)
      small_bound e inside outside x fits y =
          elim (nat_eq x y) as (λ b. nat_eq x y ≡ b → ((◌≡◌ {A = Tree} (if b then Var x else e y) (Var y)) × (MatchBool b ⊤ (inside y) → MatchBool b ⊤ (outside y))) ⊎ (IsOfKind (if b then Var x else e y) × (StaysSmall m calls of_calls only_undef nothing (if b then Var x else e y) → MatchBool b ⊤ (outside y)))) [
            | true ↦ λ is. inl (ap Var (eqb→eq x y (subst T (sym is) tt)), λ _. tt)
            | false ↦ λ is. fits y
          ] refl

      small_tuple : (e : Places) (inside outside : Each) (bs : List Binder) → FitsSmall e inside outside → FitsSmall (keep bs e) (but_all bs inside) (but_all bs outside)
      small_tuple e inside outside [] fits = fits
      small_tuple e inside outside (b ∷ bs) fits = small_bound (keep bs e) (but_all bs inside) (but_all bs outside) b.variable (small_tuple e inside outside bs fits)

      mutual
        pub small_close : (e : Places) (inner outer : Cans) (inside outside : Each) (t : Tree) → Fits e inner outer → FitsSmall e inside outside → StaysSmall m calls of_calls inner inside (close e t) → StaysSmall m calls of_calls outer outside t
        small_close e inner outer inside outside (Const v) fits small is = tt
        small_close e inner outer inside outside (Var x) fits small is =
            elim (small x) as (λ _. outside x) [
              | inl stays ↦ stays.1 (subst (StaysSmall m calls of_calls inner inside) stays.0 is)
              | inr kind ↦ kind.1 (passes inner inside (e x) kind.0 is)
            ]
        small_close e inner outer inside outside (Within d t) fits small is = small_close e inner outer inside outside t fits small is
        small_close e inner outer inside outside (Get f ts) fits small is = (small_all_close e inner outer inside outside ts fits small is.0, λ vs picked. is.1 vs (subst (λ xss. ArePicked xss vs) (sym (cans_close e inner outer ts fits)) picked))
        small_close e inner outer inside outside (Oper o ts) fits small is = (small_all_close e inner outer inside outside ts fits small is.0, λ vs picked. is.1 vs (subst (λ xss. ArePicked xss vs) (sym (cans_close e inner outer ts fits)) picked))
        small_close e inner outer inside outside (Cond g t u) fits small is =
            (small_close e inner outer inside outside g fits small is.0, small_close e inner outer inside outside t fits small is.1, small_close e inner outer inside outside u fits small is.2)
        small_close e inner outer inside outside (Let x t u) fits small is = (
          small_close e inner outer inside outside t fits small is.0,
          λ v has. small_close (put x (Var x) e) (with_can x v inner) (with_can x v outer) (but x inside) (but x outside) u (fits_bound e inner outer x v fits) (small_bound e inside outside x small) (is.1 v (subst (λ xs. Has xs v) (sym (can_close e inner outer t fits)) has)),
        )
        small_close e inner outer inside outside (Quant q bs g) fits small is = λ vs at.
            small_close (keep bs e) (with_cans bs vs inner) (with_cans bs vs outer) (but_all bs inside) (but_all bs outside) g
            (fits_tuple e inner outer bs vs (length_of (length bs) (tuples_of m.signature bs) vs (tuples_length m bs) at) fits) (small_tuple e inside outside bs small) (is vs at)

        pub small_all_close : (e : Places) (inner outer : Cans) (inside outside : Each) (ts : Trees) → Fits e inner outer → FitsSmall e inside outside → StayAllSmall m calls of_calls inner inside (close_all e ts) → StayAllSmall m calls of_calls outer outside ts
        small_all_close e inner outer inside outside none fits small is = tt
        small_all_close e inner outer inside outside (more t ts) fits small is = (small_close e inner outer inside outside t fits small is.0, small_all_close e inner outer inside outside ts fits small is.1)

    passes_undefined : Passes (λ t. t ≡ Const Undef)
    passes_undefined r each t is small = subst (StaysSmall m calls of_calls only_undef nothing) (sym is) tt

    -- nor whether it stays small
    pub closed_small : Passes IsClosed
    closed_small r each t closed is =
        small_close (λ t. t ≡ Const Undef) passes_undefined nowhere r only_undef each nothing t (λ y. inr (λ _. refl)) (λ y. inr (refl, λ _. tt)) (subst (StaysSmall m calls of_calls r each) (sym (closed nowhere)) is)

    -- what is to hold of variables may be more than is needed
    weaker_but : (x : ℕ) (each other : Each) → ((y : ℕ) → each y → other y) → (y : ℕ) → but x each y → but x other y
    weaker_but x each other less y = elim (nat_eq x y) as (λ b. MatchBool b ⊤ (each y) → MatchBool b ⊤ (other y)) [ true ↦ λ _. tt | false ↦ less y ]

    weaker_tuple : (bs : List Binder) (each other : Each) → ((y : ℕ) → each y → other y) → (y : ℕ) → but_all bs each y → but_all bs other y
    weaker_tuple [] each other less = less
    weaker_tuple (b ∷ bs) each other less = weaker_but b.variable (but_all bs each) (but_all bs other) (weaker_tuple bs each other less)

    mutual
      pub weaker : (each other : Each) (r : Cans) (t : Tree) → ((y : ℕ) → each y → other y) → StaysSmall m calls of_calls r each t → StaysSmall m calls of_calls r other t
      weaker each other r (Const v) less is = tt
      weaker each other r (Var x) less is = less x is
      weaker each other r (Within d t) less is = weaker each other r t less is
      weaker each other r (Get f ts) less is = (weaker_all each other r ts less is.0, is.1)
      weaker each other r (Oper o ts) less is = (weaker_all each other r ts less is.0, is.1)
      weaker each other r (Cond g t u) less is = (weaker each other r g less is.0, weaker each other r t less is.1, weaker each other r u less is.2)
      weaker each other r (Let x t u) less is = (weaker each other r t less is.0, λ v has. weaker (but x each) (but x other) (with_can x v r) u (weaker_but x each other less) (is.1 v has))
      weaker each other r (Quant q bs g) less is = λ vs at. weaker (but_all bs each) (but_all bs other) (with_cans bs vs r) g (weaker_tuple bs each other less) (is vs at)

      pub weaker_all : (each other : Each) (r : Cans) (ts : Trees) → ((y : ℕ) → each y → other y) → StayAllSmall m calls of_calls r each ts → StayAllSmall m calls of_calls r other ts
      weaker_all each other r none less is = tt
      weaker_all each other r (more t ts) less is = (weaker each other r t less is.0, weaker_all each other r ts less is.1)
