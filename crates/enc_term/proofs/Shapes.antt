-- What the variables of an environment may have.
use Rattle.std.proofs.Common.{◌≡◌, ℕ, zero, suc, ◌-◌, ◌<◌, true, false, if◌then◌else◌, List, [], ◌∷◌, map, length, nat_eq, refl, sym, ap, ◌∙◌, subst, inr, arith, Some, slice_get}
use Rattle.std.specs.Bool.{⊤}
use Rattle.std.specs.Prelude.{MatchBool}
use Rattle.asm_domain.specs.declared.value.Value.{Value}
use Rattle.asm_sign.specs.declared.function.Function.{Function}
use Rattle.asm_node.specs.declared.term.Binder.{Binder}
use Rattle.asm_node.specs.Values.{within}
use Rattle.asm_node.specs.Tree.{Tree, Const}
use Rattle.asm_node.specs.Machine.{Machine, Definition, definition_of}
use Rattle.asm_node.specs.Term.{Places, put, put_tuple, close}
use Rattle.asm_node.specs.Exact.{but, but_all, nothing}
use Rattle.asm_node.proofs.Closed.{IsClosed}
use Rattle.asm_eval.specs.World.{parameters_at}
use Rattle.enc_term.specs.Can.{only_undef, with_can, with_cans, parameters_can, can_by, calls_can, cans_in, can_in, function_can, defined_can}
use Rattle.enc_term.specs.Small.{StaysSmall, small_within, each_in, StaysSmallIn, IsSmallBody}
use Rattle.enc_term.proofs.CanClosing.{can_close, small_close, closed_can, closed_small, weaker}

module _ (m : Machine) (n : ℕ) where
  pub cans_put : (x : ℕ) (v : Value) (e : Places) → cans_in m n (put x (Const v) e) ≡ with_can x v (cans_in m n e)
  cans_put x v e = λ i y. at y i
    where
      at : (y : ℕ) → cans_in m n (put x (Const v) e) y ≡ with_can x v (cans_in m n e) y
      at y = elim (nat_eq x y) as (λ b. can_by m (calls_can m n) only_undef (if b then Const v else e y) ≡ (if b then v ∷ [] else cans_in m n e y)) [ true ↦ refl | false ↦ refl ]

  pub cans_tuple : (bs : List Binder) (vs : List Value) (e : Places) → cans_in m n (put_tuple bs vs e) ≡ with_cans bs vs (cans_in m n e)
  cans_tuple [] vs e = refl
  cans_tuple (b ∷ bs) [] e = refl
  cans_tuple (b ∷ bs) (v ∷ vs) e = cans_put b.variable v (put_tuple bs vs e) ∙ ap (with_can b.variable v) (cans_tuple bs vs e)

  pub cans_parameters : (xs : List ℕ) (vs : List Value) → cans_in m n (parameters_at xs vs) ≡ parameters_can xs vs
  cans_parameters [] vs = refl
  cans_parameters (x ∷ xs) [] = refl
  cans_parameters (x ∷ xs) (v ∷ vs) = cans_put x v (parameters_at xs vs) ∙ ap (with_can x v) (cans_parameters xs vs)

  each_put : (x : ℕ) (v : Value) (e : Places) (y : ℕ) → but x (each_in m n e) y → each_in m n (put x (Const v) e) y
  each_put x v e y =
      elim (nat_eq x y) as (λ b. MatchBool b ⊤ (each_in m n e y) → StaysSmall m (calls_can m n) (small_within m n) only_undef nothing (if b then Const v else e y)) [ true ↦ λ _. tt | false ↦ λ is. is ]

  -- a body where one more variable has a value
  pub small_put : (x : ℕ) (v : Value) (e : Places) (t : Tree) → StaysSmall m (calls_can m n) (small_within m n) (with_can x v (cans_in m n e)) (but x (each_in m n e)) t → StaysSmallIn m n (put x (Const v) e) t
  small_put x v e t is =
      weaker m (calls_can m n) (small_within m n) (but x (each_in m n e)) (each_in m n (put x (Const v) e)) (cans_in m n (put x (Const v) e)) t (each_put x v e)
      (subst (λ r. StaysSmall m (calls_can m n) (small_within m n) r (but x (each_in m n e)) t) (sym (cans_put x v e)) is)

  each_tuple : (bs : List Binder) (vs : List Value) (e : Places) → length vs ≡ length bs → (y : ℕ) → but_all bs (each_in m n e) y → each_in m n (put_tuple bs vs e) y
  each_tuple [] vs e long y is = is
  each_tuple (b ∷ bs) [] e long y is = absurd (omega (arith, long))
  each_tuple (b ∷ bs) (v ∷ vs) e long y is =
      elim (nat_eq b.variable y) as (λ c. MatchBool c ⊤ (but_all bs (each_in m n e) y) → StaysSmall m (calls_can m n) (small_within m n) only_undef nothing (if c then Const v else put_tuple bs vs e y)) [
        | true ↦ λ _. tt
        | false ↦ λ rest. each_tuple bs vs e (omega (arith, long)) y rest
      ] is

  -- a body where the variables of binders have values
  pub small_tuple : (bs : List Binder) (vs : List Value) (e : Places) (t : Tree) → length vs ≡ length bs → StaysSmall m (calls_can m n) (small_within m n) (with_cans bs vs (cans_in m n e)) (but_all bs (each_in m n e)) t → StaysSmallIn m n (put_tuple bs vs e) t
  small_tuple bs vs e t long is =
      weaker m (calls_can m n) (small_within m n) (but_all bs (each_in m n e)) (each_in m n (put_tuple bs vs e)) (cans_in m n (put_tuple bs vs e)) t (each_tuple bs vs e long)
      (subst (λ r. StaysSmall m (calls_can m n) (small_within m n) r (but_all bs (each_in m n e)) t) (sym (cans_tuple bs vs e)) is)

  each_parameters : (xs : List ℕ) (vs : List Value) (y : ℕ) → each_in m n (parameters_at xs vs) y
  each_parameters [] vs y = tt
  each_parameters (x ∷ xs) [] y = tt
  each_parameters (x ∷ xs) (v ∷ vs) y = elim (nat_eq x y) as (λ b. StaysSmall m (calls_can m n) (small_within m n) only_undef nothing (if b then Const v else parameters_at xs vs y)) [ true ↦ tt | false ↦ each_parameters xs vs y ]

  -- the body of a function
  pub small_parameters : (xs : List ℕ) (vs : List Value) (t : Tree) → StaysSmall m (calls_can m n) (small_within m n) (parameters_can xs vs) nothing t → StaysSmallIn m n (parameters_at xs vs) t
  small_parameters xs vs t is =
      weaker m (calls_can m n) (small_within m n) nothing (each_in m n (parameters_at xs vs)) (cans_in m n (parameters_at xs vs)) t (λ y _. each_parameters xs vs y)
      (subst (λ r. StaysSmall m (calls_can m n) (small_within m n) r nothing t) (sym (cans_parameters xs vs)) is)

  module _ (e : Places) (each : (y : ℕ) → IsClosed (e y)) where
    -- a term that is closed by the places may have what the term may have under them
    pub can_closed : (t : Tree) → can_by m (calls_can m n) only_undef (close e t) ≡ can_in m n e t
    can_closed t = can_close m (calls_can m n) e only_undef (cans_in m n e) t (λ y. inr (λ r. closed_can m (calls_can m n) (e y) (each y) r only_undef))

    -- and stays small where that does
    pub small_closed : (t : Tree) → StaysSmall m (calls_can m n) (small_within m n) only_undef nothing (close e t) → StaysSmallIn m n e t
    small_closed t is =
        small_close m (calls_can m n) (small_within m n) IsClosed (closed_small m (calls_can m n) (small_within m n)) e only_undef (cans_in m n e) nothing (each_in m n e) t
        (λ y. inr (λ r. closed_can m (calls_can m n) (e y) (each y) r only_undef))
        (λ y. inr (each y, λ is. is)) is

-- a definition is entered
pub can_entered : (m : Machine) (n f : ℕ) (vs : List Value) (function : Function) (d : Definition) → 0 < n → slice_get m.signature.functions f ≡ Some function → Some d ≡ definition_of m.definitions f
    → calls_can m n f vs ≡ map (within m.signature.domains function.codomain) (can_by m (calls_can m (n - 1)) (parameters_can d.parameters vs) d.body)
can_entered m zero f vs function d some is defined = absurd (omega arith)
can_entered m (suc n) f vs function d some is defined =
    let down : suc n - 1 ≡ n = omega arith in
    ap (λ o. function_can m (calls_can m n) f o vs) is ∙ ap (λ o. defined_can m (calls_can m n) function o vs) (sym defined)
    ∙ ap (λ k. map (within m.signature.domains function.codomain) (can_by m (calls_can m k) (parameters_can d.parameters vs) d.body)) (sym down)

pub small_entered : (m : Machine) (n f : ℕ) (vs : List Value) (d : Definition) → 0 < n → Some d ≡ definition_of m.definitions f → small_within m n f vs
    → StaysSmall m (calls_can m (n - 1)) (small_within m (n - 1)) (parameters_can d.parameters vs) nothing d.body
small_entered m zero f vs d some defined small = absurd (omega arith)
small_entered m (suc n) f vs d some defined small =
    let down : suc n - 1 ≡ n = omega arith in
    subst (λ k. StaysSmall m (calls_can m k) (small_within m k) (parameters_can d.parameters vs) nothing d.body) (sym down)
    (subst (λ o. IsSmallBody m (calls_can m n) (small_within m n) o vs) (sym defined) small)
