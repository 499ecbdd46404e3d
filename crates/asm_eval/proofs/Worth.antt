-- What the variables of an environment read as.
use Rattle.std.proofs.Common.{◌≡◌, ℕ, true, false, if◌then◌else◌, List, [], ◌∷◌, length, nat_eq, refl, sym, ap, ◌∙◌, subst, inr, arith}
use Rattle.std.specs.Bool.{⊤}
use Rattle.std.specs.Prelude.{MatchBool}
use Rattle.asm_domain.specs.declared.value.Value.{Value}
use Rattle.asm_node.specs.declared.term.Binder.{Binder}
use Rattle.asm_node.specs.Tree.{Tree, Trees, Const}
use Rattle.asm_node.specs.Term.{World, Gives, unbound, with_value, with_tuple, parameters_have, value_of, calls_within, Places, put, put_tuple, close, close_all}
use Rattle.asm_node.specs.Exact.{but, but_all, nothing, exact_within, IsExactIn, AreExactIn}
use Rattle.asm_node.proofs.Closed.{IsClosed}
use Rattle.asm_eval.specs.World.{reads_by, value_by, each_by, IsExactBy, AreExactBy, parameters_at}
use Rattle.asm_node.proofs.Closing.{value_of-close, exact-close, exact_all-close, closed-value, closed-exact, weaker}

module _ (w : World) (n : ℕ) where
  pub reads-put : (x : ℕ) (v : Value) (e : Places) → reads_by w n (put x (Const v) e) ≡ with_value x v (reads_by w n e)
  reads-put x v e = λ i y. at y i
    where
      at : (y : ℕ) → reads_by w n (put x (Const v) e) y ≡ with_value x v (reads_by w n e) y
      at y = elim (nat_eq x y) as (λ b. value_of w (calls_within w n) unbound (if b then Const v else e y) ≡ (if b then Gives v else reads_by w n e y)) [ true ↦ refl | false ↦ refl ]

  pub reads-tuple : (bs : List Binder) (vs : List Value) (e : Places) → reads_by w n (put_tuple bs vs e) ≡ with_tuple bs vs (reads_by w n e)
  reads-tuple [] vs e = refl
  reads-tuple (b ∷ bs) [] e = refl
  reads-tuple (b ∷ bs) (v ∷ vs) e = reads-put b.variable v (put_tuple bs vs e) ∙ ap (with_value b.variable v) (reads-tuple bs vs e)

  pub reads-parameters : (xs : List ℕ) (vs : List Value) → reads_by w n (parameters_at xs vs) ≡ parameters_have xs vs
  reads-parameters [] vs = refl
  reads-parameters (x ∷ xs) [] = refl
  reads-parameters (x ∷ xs) (v ∷ vs) = reads-put x v (parameters_at xs vs) ∙ ap (with_value x v) (reads-parameters xs vs)

  each-put : (x : ℕ) (v : Value) (e : Places) (y : ℕ) → but x (each_by w n e) y → each_by w n (put x (Const v) e) y
  each-put x v e y =
      elim (nat_eq x y) as (λ b. MatchBool b ⊤ (each_by w n e y) → IsExactIn w (calls_within w n) (exact_within w n) unbound nothing (if b then Const v else e y)) [ true ↦ λ _. tt | false ↦ λ is. is ]

  -- a body where one more variable has a value
  pub exact-put : (x : ℕ) (v : Value) (e : Places) (t : Tree) → IsExactIn w (calls_within w n) (exact_within w n) (with_value x v (reads_by w n e)) (but x (each_by w n e)) t → IsExactBy w n (put x (Const v) e) t
  exact-put x v e t is =
      weaker w (calls_within w n) (exact_within w n) (but x (each_by w n e)) (each_by w n (put x (Const v) e)) (reads_by w n (put x (Const v) e)) t (each-put x v e)
      (subst (λ r. IsExactIn w (calls_within w n) (exact_within w n) r (but x (each_by w n e)) t) (sym (reads-put x v e)) is)

  each-tuple : (bs : List Binder) (vs : List Value) (e : Places) → length vs ≡ length bs → (y : ℕ) → but_all bs (each_by w n e) y → each_by w n (put_tuple bs vs e) y
  each-tuple [] vs e long y is = is
  each-tuple (b ∷ bs) [] e long y is = absurd (omega (arith, long))
  each-tuple (b ∷ bs) (v ∷ vs) e long y is =
      elim (nat_eq b.variable y) as (λ c. MatchBool c ⊤ (but_all bs (each_by w n e) y) → IsExactIn w (calls_within w n) (exact_within w n) unbound nothing (if c then Const v else put_tuple bs vs e y)) [
        | true ↦ λ _. tt
        | false ↦ λ rest. each-tuple bs vs e (omega (arith, long)) y rest
      ] is

  -- a body where the variables of binders have values
  pub exact-tuple : (bs : List Binder) (vs : List Value) (e : Places) (t : Tree) → length vs ≡ length bs → IsExactIn w (calls_within w n) (exact_within w n) (with_tuple bs vs (reads_by w n e)) (but_all bs (each_by w n e)) t → IsExactBy w n (put_tuple bs vs e) t
  exact-tuple bs vs e t long is =
      weaker w (calls_within w n) (exact_within w n) (but_all bs (each_by w n e)) (each_by w n (put_tuple bs vs e)) (reads_by w n (put_tuple bs vs e)) t (each-tuple bs vs e long)
      (subst (λ r. IsExactIn w (calls_within w n) (exact_within w n) r (but_all bs (each_by w n e)) t) (sym (reads-tuple bs vs e)) is)

  each-parameters : (xs : List ℕ) (vs : List Value) (y : ℕ) → each_by w n (parameters_at xs vs) y
  each-parameters [] vs y = tt
  each-parameters (x ∷ xs) [] y = tt
  each-parameters (x ∷ xs) (v ∷ vs) y = elim (nat_eq x y) as (λ b. IsExactIn w (calls_within w n) (exact_within w n) unbound nothing (if b then Const v else parameters_at xs vs y)) [ true ↦ tt | false ↦ each-parameters xs vs y ]

  -- the body of a function
  pub exact-parameters : (xs : List ℕ) (vs : List Value) (t : Tree) → IsExactIn w (calls_within w n) (exact_within w n) (parameters_have xs vs) nothing t → IsExactBy w n (parameters_at xs vs) t
  exact-parameters xs vs t is =
      weaker w (calls_within w n) (exact_within w n) nothing (each_by w n (parameters_at xs vs)) (reads_by w n (parameters_at xs vs)) t (λ y _. each-parameters xs vs y)
      (subst (λ r. IsExactIn w (calls_within w n) (exact_within w n) r nothing t) (sym (reads-parameters xs vs)) is)

  module _ (e : Places) (each : (y : ℕ) → IsClosed (e y)) where
    -- a term that is closed by the places has the value of the term under them
    pub closed-by : (t : Tree) → value_of w (calls_within w n) unbound (close e t) ≡ value_by w n e t
    closed-by t = value_of-close w (calls_within w n) e unbound (reads_by w n e) t (λ y. inr (λ r. closed-value w (calls_within w n) (e y) (each y) r unbound))

    -- and is exact where that is
    pub exact-by : (t : Tree) → IsExactIn w (calls_within w n) (exact_within w n) unbound nothing (close e t) → IsExactBy w n e t
    exact-by t is =
        exact-close w (calls_within w n) (exact_within w n) IsClosed (closed-exact w (calls_within w n) (exact_within w n)) e unbound (reads_by w n e) nothing (each_by w n e) t
        (λ y. inr (λ r. closed-value w (calls_within w n) (e y) (each y) r unbound))
        (λ y. inr (each y, λ is. is)) is

    pub exact_all-by : (ts : Trees) → AreExactIn w (calls_within w n) (exact_within w n) unbound nothing (close_all e ts) → AreExactBy w n e ts
    exact_all-by ts is =
        exact_all-close w (calls_within w n) (exact_within w n) IsClosed (closed-exact w (calls_within w n) (exact_within w n)) e unbound (reads_by w n e) nothing (each_by w n e) ts
        (λ y. inr (λ r. closed-value w (calls_within w n) (e y) (each y) r unbound))
        (λ y. inr (each y, λ is. is)) is
