-- Where two states have the same at each slot, or `undef` in the place of nothing, terms have the same values.
use Rattle.std.proofs.Common.{◌≡◌, ℕ, zero, suc, List, [], ◌∷◌, Option, Some, None, if◌then◌else◌, slice_get, refl, ap, ◌∙◌}
use Rattle.asm_domain.specs.declared.value.Value.{Value}
use Rattle.asm_domain.specs.declared.value.Value.TheVariants.{Undef}
use Rattle.asm_sign.specs.declared.function.Function.{Function}
use Rattle.asm_sign.specs.Kind.{is_dynamic, is_kept}
use Rattle.asm_node.specs.Tree.{Tree, Const, Var, Within, Get, Oper, Cond, Let, Quant, Trees, none, more}
use Rattle.asm_node.specs.Values.{result_of, quantified, within, are_arguments}
use Rattle.asm_node.specs.Machine.{Machine, State, Input, Definition, definition_of, slot_at, tuples_of}
use Rattle.asm_node.specs.Term.{Outcome, Gives, and_then, World, Reads, Calls, with_value, with_tuple, parameters_have, input_value, state_value, read, branch, guard_values, value_of, values_of, defined_value, value_of_function, calls_within}
use Rattle.asm_node.specs.Exact.{Each, but, but_all, nothing, OfCalls, IsOfCall, IsExactIn, AreExactIn, IsExactBody, exact_within}
use Rattle.asm_eval.specs.World.{world_in}

guards-alike : (guard guard' : List Value → Outcome Value) → ((vs : List Value) → guard vs ≡ guard' vs) → (ts : List (List Value)) → guard_values guard ts ≡ guard_values guard' ts
guards-alike guard guard' same [] = refl
guards-alike guard guard' same (t ∷ ts) = λ i. and_then (same t i) (λ v. and_then (guards-alike guard guard' same ts i) (λ vs. Gives (v ∷ vs)))

module _ (m : Machine) (s s' : State) (input : Input) (same : (slot : Option ℕ) → state_value (world_in m s input) slot ≡ state_value (world_in m s' input) slot) where
  abbrev w : World
  w = world_in m s input

  abbrev w' : World
  w' = world_in m s' input

  module _ (calls calls' : Calls) (same_calls : (f : ℕ) (vs : List Value) → calls f vs ≡ calls' f vs) where
    read-alike : (f : ℕ) (function : Option Function) (vs : List Value) → read w calls f function vs ≡ read w' calls' f function vs
    read-alike f None vs = refl
    read-alike f (Some function) vs = λ i.
        if are_arguments m.signature.domains function.domains vs
        then (if is_dynamic function.kind then (if is_kept function.kind then same (slot_at m.signature f vs) i else input_value w (slot_at m.signature f vs)) else same_calls f vs i)
        else Gives Undef

    mutual
      pub value-alike : (t : Tree) (reads : Reads) → value_of w calls reads t ≡ value_of w' calls' reads t
      value-alike (Const v) reads = refl
      value-alike (Var x) reads = refl
      value-alike (Within d t) reads = ap (λ o. and_then o (λ v. Gives (within m.signature.domains d v))) (value-alike t reads)
      value-alike (Get f ts) reads = λ i. and_then (values-alike ts reads i) (λ vs. read-alike f (slice_get m.signature.functions f) vs i)
      value-alike (Oper o ts) reads = ap (λ p. and_then p (λ vs. Gives (result_of o vs))) (values-alike ts reads)
      value-alike (Cond g t u) reads = λ i. and_then (value-alike g reads i) (λ v. branch v (value-alike t reads i) (value-alike u reads i) (Gives Undef))
      value-alike (Let x t u) reads = λ i. and_then (value-alike t reads i) (λ v. value-alike u (with_value x v reads) i)
      value-alike (Quant q bs g) reads =
          ap (λ o. and_then o (λ vs. Gives (quantified q vs)))
          (guards-alike (λ vs. value_of w calls (with_tuple bs vs reads) g) (λ vs. value_of w' calls' (with_tuple bs vs reads) g) (λ vs. value-alike g (with_tuple bs vs reads)) (tuples_of m.signature bs))

      pub values-alike : (ts : Trees) (reads : Reads) → values_of w calls reads ts ≡ values_of w' calls' reads ts
      values-alike none reads = refl
      values-alike (more t ts) reads = λ i. and_then (value-alike t reads i) (λ v. and_then (values-alike ts reads i) (λ vs. Gives (v ∷ vs)))

    module _ (of_calls of_calls' : OfCalls) (exact_calls : (f : ℕ) (vs : List Value) → of_calls f vs → of_calls' f vs) where
      of_call : (f : ℕ) (function : Option Function) (vs : List Value) → IsOfCall w of_calls f function vs → IsOfCall w' of_calls' f function vs
      of_call f None vs is = tt
      of_call f (Some function) vs is = λ are. exact_calls f vs (is are)

      mutual
        pub exact-alike : (t : Tree) (reads : Reads) (each : Each) → IsExactIn w calls of_calls reads each t → IsExactIn w' calls' of_calls' reads each t
        exact-alike (Const v) reads each is = tt
        exact-alike (Var x) reads each is = is
        exact-alike (Within d t) reads each is = exact-alike t reads each is
        exact-alike (Get f ts) reads each is = (exact_all-alike ts reads each is.0, λ vs gives. of_call f (slice_get m.signature.functions f) vs (is.1 vs (values-alike ts reads ∙ gives)))
        exact-alike (Oper o ts) reads each is = (exact_all-alike ts reads each is.0, λ vs gives. is.1 vs (values-alike ts reads ∙ gives))
        exact-alike (Cond g t u) reads each is = (exact-alike g reads each is.0, exact-alike t reads each is.1, exact-alike u reads each is.2)
        exact-alike (Let x t u) reads each is = (exact-alike t reads each is.0, λ v gives. exact-alike u (with_value x v reads) (but x each) (is.1 v (value-alike t reads ∙ gives)))
        exact-alike (Quant q bs g) reads each is = λ vs at. exact-alike g (with_tuple bs vs reads) (but_all bs each) (is vs at)

        pub exact_all-alike : (ts : Trees) (reads : Reads) (each : Each) → AreExactIn w calls of_calls reads each ts → AreExactIn w' calls' of_calls' reads each ts
        exact_all-alike none reads each is = tt
        exact_all-alike (more t ts) reads each is = (exact-alike t reads each is.0, exact_all-alike ts reads each is.1)

      body-alike : (o : Option Definition) (vs : List Value) → IsExactBody w calls of_calls o vs → IsExactBody w' calls' of_calls' o vs
      body-alike None vs is = tt
      body-alike (Some d) vs is = exact-alike d.body (parameters_have d.parameters vs) nothing is

    function-alike : (f : ℕ) (function : Option Function) (vs : List Value) → value_of_function w calls f function vs ≡ value_of_function w' calls' f function vs
    function-alike f None vs = refl
    function-alike f (Some function) vs = by_definition (definition_of m.definitions f)
      where
        by_definition : (d : Option Definition) → defined_value w calls function d vs ≡ defined_value w' calls' function d vs
        by_definition None = refl
        by_definition (Some d) = ap (λ o. and_then o (λ v. Gives (within m.signature.domains function.codomain v))) (value-alike d.body (parameters_have d.parameters vs))

  calls-alike : (n f : ℕ) (vs : List Value) → calls_within w n f vs ≡ calls_within w' n f vs
  calls-alike zero f vs = refl
  calls-alike (suc n) f vs = function-alike (calls_within w n) (calls_within w' n) (calls-alike n) f (slice_get m.signature.functions f) vs

  exact_calls-alike : (n f : ℕ) (vs : List Value) → exact_within w n f vs → exact_within w' n f vs
  exact_calls-alike zero f vs is = tt
  exact_calls-alike (suc n) f vs is = body-alike (calls_within w n) (calls_within w' n) (calls-alike n) (exact_within w n) (exact_within w' n) (exact_calls-alike n) (definition_of m.definitions f) vs is

  -- a body has the same value at arguments
  pub body-value : (t : Tree) (reads : Reads) → value_of w (calls_within w 32) reads t ≡ value_of w' (calls_within w' 32) reads t
  body-value t reads = value-alike (calls_within w 32) (calls_within w' 32) (calls-alike 32) t reads

  -- and is exact
  pub body-exact : (o : Option Definition) (vs : List Value) → IsExactBody w (calls_within w 32) (exact_within w 32) o vs → IsExactBody w' (calls_within w' 32) (exact_within w' 32) o vs
  body-exact o vs is = body-alike (calls_within w 32) (calls_within w' 32) (calls-alike 32) (exact_within w 32) (exact_within w' 32) (exact_calls-alike 32) o vs is
