-- A term that is exact where its variables read as closed terms is exact with these in their places.
use Rattle.std.proofs.Common.{◌≡◌, ℕ, true, false, if◌then◌else◌, List, [], ◌∷◌, nat_eq, T, eqb→eq, refl, sym, ap, ◌∙◌, subst, ◌⊎◌, inl, inr}
use Rattle.std.specs.Bool.{⊤}
use Rattle.std.specs.Prelude.{MatchBool, length}
use Rattle.asm_domain.specs.declared.value.Value.TheVariants.{Undef}
use Rattle.asm_node.specs.declared.term.Binder.{Binder}
use Rattle.asm_node.specs.Tree.{Tree, Const, Var, Within, Get, Oper, Cond, Let, Quant, Trees, none, more}
use Rattle.asm_node.specs.Machine.{tuples_of}
use Rattle.asm_node.specs.Term.{World, Calls, Reads, unbound, with_value, with_tuple, value_of, calls_of, reads_at, Places, nowhere, put, keep, close, close_all}
use Rattle.asm_node.specs.Exact.{Each, but, but_all, nothing, OfCalls, IsExactIn, AreExactIn, exact_within, IsExact, AreExact}
use Rattle.asm_node.proofs.Closed.{IsClosed}
use Rattle.asm_node.proofs.Closing.{Fits, fits-bound, fits-tuple, tuples-length, length-at, value_of-close, values_of-close, closed-value}

module _ (w : World) (calls : Calls) (of_calls : OfCalls) where
  -- terms of some kind that are exact alone are exact whatever variables read as
  abbrev Keeps : (Tree → Type 0) → Type 1
  Keeps IsOfKind = (r : Reads) (each : Each) (t : Tree) → IsOfKind t → IsExactIn w calls of_calls unbound nothing t → IsExactIn w calls of_calls r each t

  module _ (IsOfKind : Tree → Type 0) (keeps : Keeps IsOfKind) where
    -- a variable stays, or a term of the kind is in its place
    abbrev Stands : Places → Each → Each → Type 0
    Stands e inside outside = (y : ℕ) → ((e y ≡ Var y) × (outside y → inside y)) ⊎ (IsOfKind (e y) × (outside y → IsExactIn w calls of_calls unbound nothing (e y)))

    stands-bound : (e : Places) (inside outside : Each) (x : ℕ) → Stands e inside outside → Stands (put x (Var x) e) (but x inside) (but x outside)
    stands-bound e inside outside x stands y =
        elim (nat_eq x y) as (λ b. nat_eq x y ≡ b → ((◌≡◌ {A = Tree} (if b then Var x else e y) (Var y)) × (MatchBool b ⊤ (outside y) → MatchBool b ⊤ (inside y))) ⊎ (IsOfKind (if b then Var x else e y) × (MatchBool b ⊤ (outside y) → IsExactIn w calls of_calls unbound nothing (if b then Var x else e y)))) [
          | true ↦ λ is. inl (ap Var (eqb→eq x y (subst T (sym is) tt)), λ _. tt)
          | false ↦ λ is. stands y
        ] refl

    stands-tuple : (e : Places) (inside outside : Each) (bs : List Binder) → Stands e inside outside → Stands (keep bs e) (but_all bs inside) (but_all bs outside)
    stands-tuple e inside outside [] stands = stands
    stands-tuple e inside outside (b ∷ bs) stands = stands-bound (keep bs e) (but_all bs inside) (but_all bs outside) b.variable (stands-tuple e inside outside bs stands)

    mutual
      close-exact : (e : Places) (inner outer : Reads) (inside outside : Each) (t : Tree) → Fits w calls e inner outer → Stands e inside outside → IsExactIn w calls of_calls outer outside t → IsExactIn w calls of_calls inner inside (close e t)
      close-exact e inner outer inside outside (Const v) fits stands is = tt
      close-exact e inner outer inside outside (Var x) fits stands is =
          elim (stands x) as (λ _. IsExactIn w calls of_calls inner inside (e x)) [
            | inl stays ↦ subst (IsExactIn w calls of_calls inner inside) (sym stays.0) (stays.1 is)
            | inr kind ↦ keeps inner inside (e x) kind.0 (kind.1 is)
          ]
      close-exact e inner outer inside outside (Within d t) fits stands is = close-exact e inner outer inside outside t fits stands is
      close-exact e inner outer inside outside (Get f ts) fits stands is = (close_all-exact e inner outer inside outside ts fits stands is.0, λ vs gives. is.1 vs (sym (values_of-close w calls e inner outer ts fits) ∙ gives))
      close-exact e inner outer inside outside (Oper o ts) fits stands is = (close_all-exact e inner outer inside outside ts fits stands is.0, λ vs gives. is.1 vs (sym (values_of-close w calls e inner outer ts fits) ∙ gives))
      close-exact e inner outer inside outside (Cond g t u) fits stands is =
          (close-exact e inner outer inside outside g fits stands is.0, close-exact e inner outer inside outside t fits stands is.1, close-exact e inner outer inside outside u fits stands is.2)
      close-exact e inner outer inside outside (Let x t u) fits stands is = (
        close-exact e inner outer inside outside t fits stands is.0,
        λ v gives. close-exact (put x (Var x) e) (with_value x v inner) (with_value x v outer) (but x inside) (but x outside) u (fits-bound w calls e inner outer x v fits) (stands-bound e inside outside x stands) (is.1 v (sym (value_of-close w calls e inner outer t fits) ∙ gives)),
      )
      close-exact e inner outer inside outside (Quant q bs g) fits stands is = λ vs at.
          close-exact (keep bs e) (with_tuple bs vs inner) (with_tuple bs vs outer) (but_all bs inside) (but_all bs outside) g
          (fits-tuple w calls e inner outer bs vs (length-at (length bs) (tuples_of w.machine.signature bs) vs (tuples-length w bs) at) fits) (stands-tuple e inside outside bs stands) (is vs at)

      close_all-exact : (e : Places) (inner outer : Reads) (inside outside : Each) (ts : Trees) → Fits w calls e inner outer → Stands e inside outside → AreExactIn w calls of_calls outer outside ts → AreExactIn w calls of_calls inner inside (close_all e ts)
      close_all-exact e inner outer inside outside none fits stands is = tt
      close_all-exact e inner outer inside outside (more t ts) fits stands is = (close-exact e inner outer inside outside t fits stands is.0, close_all-exact e inner outer inside outside ts fits stands is.1)

  keeps-undefined : Keeps (λ t. t ≡ Const Undef)
  keeps-undefined r each t is exact = subst (IsExactIn w calls of_calls r each) (sym is) tt

  -- a closed term is exact whatever variables read as
  keeps-closed : Keeps IsClosed
  keeps-closed r each t closed is =
      subst (IsExactIn w calls of_calls r each) (closed nowhere)
      (close-exact (λ t. t ≡ Const Undef) keeps-undefined nowhere r unbound each nothing t (λ y. inr (λ _. refl)) (λ y. inr (refl, λ _. tt)) is)

-- what a variable's closed term is to be
abbrev pub each_at : World → Places → Each
each_at w e = λ x. IsExact w (e x)

module _ (w : World) (e : Places) (closed : (y : ℕ) → IsClosed (e y)) where
  pub closed_exact : (t : Tree) → IsExactIn w (calls_of w) (exact_within w 32) (reads_at w e) (each_at w e) t → IsExact w (close e t)
  closed_exact t is =
      close-exact w (calls_of w) (exact_within w 32) IsClosed (keeps-closed w (calls_of w) (exact_within w 32)) e unbound (reads_at w e) nothing (each_at w e) t
      (λ y. inr (λ r. closed-value w (calls_of w) (e y) (closed y) r unbound)) (λ y. inr (closed y, λ h. h)) is

  pub all_closed_exact : (ts : Trees) → AreExactIn w (calls_of w) (exact_within w 32) (reads_at w e) (each_at w e) ts → AreExact w (close_all e ts)
  all_closed_exact ts is =
      close_all-exact w (calls_of w) (exact_within w 32) IsClosed (keeps-closed w (calls_of w) (exact_within w 32)) e unbound (reads_at w e) nothing (each_at w e) ts
      (λ y. inr (λ r. closed-value w (calls_of w) (e y) (closed y) r unbound)) (λ y. inr (closed y, λ h. h)) is

  -- its value is that of the term where variables stand for closed terms
  pub closed_value : (t : Tree) → value_of w (calls_of w) unbound (close e t) ≡ value_of w (calls_of w) (reads_at w e) t
  closed_value t = value_of-close w (calls_of w) e unbound (reads_at w e) t (λ y. inr (λ r. closed-value w (calls_of w) (e y) (closed y) r unbound))
