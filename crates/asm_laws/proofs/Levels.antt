-- More levels of definitions give the same values.
use Rattle.std.proofs.Common.{◌≡◌, ℕ, zero, suc, ◌≤◌, List, ◌∷◌, Option, Some, None, Bool as Truth, if◌then◌else◌, slice_get, refl, ap, arith}
use Rattle.std.specs.Prelude.{⊤}
use Rattle.asm_domain.specs.declared.value.Value.{Value}
use Rattle.asm_domain.specs.declared.value.Value.TheVariants.{Undef}
use Rattle.asm_sign.specs.declared.function.Function.{Function}
use Rattle.asm_sign.specs.declared.function.FunKind.{FunKind}
use Rattle.asm_sign.specs.Kind.{is_dynamic, is_kept}
use Rattle.asm_node.specs.Tree.{Tree, Const, Var, Within, Get, Oper, Cond, Let, Quant, Trees, none, more}
use Rattle.asm_node.specs.Values.{result_of, quantified, within, are_arguments}
use Rattle.asm_node.specs.Machine.{Definition, definition_of, slot_at, tuples_of}
use Rattle.asm_node.specs.Term.{Gives, and_then, World, Reads, Calls, with_value, with_tuple, parameters_have, input_value, state_value, read, branch, guard_values, value_of, values_of, defined_value, value_of_function, undefined_value, value_at_last, calls_within}
use Rattle.asm_node.specs.Reads.{OfNumbers, ReadsOnly, ReadOnly, DefinitionReadsOnly, may_be_read}
use Rattle.asm_node.specs.WellFormed.{IsWellFormed, any_kind}
use Rattle.asm_laws.specs.Levels.{GivesAlike, HasOneValue}

module _ (w : World) where
  -- two meanings of defined functions that agree on declared functions of which it holds
  abbrev pub AgreeOn : OfNumbers → Calls → Calls → Type 0
  AgreeOn holds calls calls' = (f : ℕ) (function : Option Function) (vs : List Value) → slice_get w.machine.signature.functions f ≡ function → holds f → read w calls f function vs ≡ read w calls' f function vs

  module _ (holds : OfNumbers) (calls calls' : Calls) (agree : AgreeOn holds calls calls') where
    mutual
      pub value_same : (t : Tree) (reads : Reads) → ReadsOnly holds t → value_of w calls reads t ≡ value_of w calls' reads t
      value_same (Const v) reads h = refl
      value_same (Var x) reads h = refl
      value_same (Within d t) reads h = ap (λ o. and_then o (λ v. Gives (within w.machine.signature.domains d v))) (value_same t reads h)
      value_same (Get f ts) reads h = λ i. and_then (values_same ts reads h.1 i) (λ vs. agree f (slice_get w.machine.signature.functions f) vs refl h.0 i)
      value_same (Oper o ts) reads h = ap (λ p. and_then p (λ vs. Gives (result_of o vs))) (values_same ts reads h)
      value_same (Cond g t u) reads h = λ i. and_then (value_same g reads h.0 i) (λ v. branch v (value_same t reads h.1 i) (value_same u reads h.2 i) (Gives Undef))
      value_same (Let x t u) reads h = λ i. and_then (value_same t reads h.0 i) (λ v. value_same u (with_value x v reads) h.1 i)
      value_same (Quant q bs g) reads h = λ i.
          and_then (guard_values (λ vs. value_same g (with_tuple bs vs reads) h i) (tuples_of w.machine.signature bs)) (λ vs. Gives (quantified q vs))

      pub values_same : (ts : Trees) (reads : Reads) → ReadOnly holds ts → values_of w calls reads ts ≡ values_of w calls' reads ts
      values_same none reads h = refl
      values_same (more t ts) reads h = λ i. and_then (value_same t reads h.0 i) (λ v. and_then (values_same ts reads h.1 i) (λ vs. Gives (v ∷ vs)))

  read_same : (calls calls' : Calls) (f : ℕ) (function : Option Function) (vs : List Value) → calls f vs ≡ calls' f vs → read w calls f function vs ≡ read w calls' f function vs
  read_same calls calls' f None vs same = refl
  read_same calls calls' f (Some function) vs same = λ i.
      if are_arguments w.machine.signature.domains function.domains vs
      then (if is_dynamic function.kind
      then (if is_kept function.kind then state_value w (slot_at w.machine.signature f vs) else input_value w (slot_at w.machine.signature f vs))
      else same i)
      else Gives Undef

  without : (calls : Calls) (function : Function) (o : Option Definition) (vs : List Value) → o ≡ None → defined_value w calls function o vs ≡ Gives (undefined_value w function o)
  without calls function None vs h = refl
  without calls function (Some d) vs h = absurd (cc (h))

  -- at no level left: a function without a definition
  at_last : (calls : Calls) (f : ℕ) (function : Option Function) (vs : List Value) → definition_of w.machine.definitions f ≡ None → value_of_function w calls f function vs ≡ Gives (value_at_last w f function)
  at_last calls f None vs h = refl
  at_last calls f (Some function) vs h = without calls function (definition_of w.machine.definitions f) vs h

  body_same : (holds : OfNumbers) (calls calls' : Calls) (agree : AgreeOn holds calls calls') (function : Function) (o : Option Definition) (vs : List Value) → DefinitionReadsOnly holds o → defined_value w calls function o vs ≡ defined_value w calls' function o vs
  body_same holds calls calls' agree function None vs h = refl
  body_same holds calls calls' agree function (Some d) vs h =
      ap (λ o. and_then o (λ v. Gives (within w.machine.signature.domains function.codomain v))) (value_same holds calls calls' agree d.body (parameters_have d.parameters vs) h)

  function_same : (holds : OfNumbers) (calls calls' : Calls) (agree : AgreeOn holds calls calls') (f : ℕ) (function : Option Function) (vs : List Value) → DefinitionReadsOnly holds (definition_of w.machine.definitions f) → value_of_function w calls f function vs ≡ value_of_function w calls' f function vs
  function_same holds calls calls' agree f None vs h = refl
  function_same holds calls calls' agree f (Some function) vs h = body_same holds calls calls' agree function (definition_of w.machine.definitions f) vs h

  -- from the levels on that a function's definitions need, it gives the same
  pub calls_same : (allowed : FunKind → Truth) (n k f : ℕ) (vs : List Value) → n ≤ k → may_be_read w.machine allowed n f → calls_within w k f vs ≡ calls_within w n f vs
  calls_same allowed zero zero f vs le h = refl
  calls_same allowed zero (suc k) f vs le h = at_last (calls_within w k) f (slice_get w.machine.signature.functions f) vs h.1
  calls_same allowed (suc n) zero f vs le h = absurd (omega (arith, le))
  calls_same allowed (suc n) (suc k) f vs le h =
      function_same (may_be_read w.machine allowed n) (calls_within w k) (calls_within w n)
      (λ g function us is may. read_same (calls_within w k) (calls_within w n) g function us (calls_same allowed n k g us (omega (arith, le)) may)) f (slice_get w.machine.signature.functions f) vs h.1

  pub gives_alike : (allowed : FunKind → Truth) (n f : ℕ) → may_be_read w.machine allowed n f → GivesAlike w n f
  gives_alike allowed n f h k vs le = calls_same allowed n k f vs le h

  -- ---- in a well-formed model

  mutual
    reads_any : (t : Tree) → ReadsOnly (λ f. ⊤) t
    reads_any (Const v) = tt
    reads_any (Var x) = tt
    reads_any (Within d t) = reads_any t
    reads_any (Get f ts) = (tt, read_any ts)
    reads_any (Oper o ts) = read_any ts
    reads_any (Cond g t u) = (reads_any g, reads_any t, reads_any u)
    reads_any (Let x t u) = (reads_any t, reads_any u)
    reads_any (Quant q bs g) = reads_any g

    read_any : (ts : Trees) → ReadOnly (λ f. ⊤) ts
    read_any none = tt
    read_any (more t ts) = (reads_any t, read_any ts)

  pub one_value : IsWellFormed w.machine → (t : Tree) → HasOneValue w t
  one_value well t k reads le = value_same (λ f. ⊤) (calls_within w k) (calls_within w 32) agree t reads (reads_any t)
    where
      agree : AgreeOn (λ f. ⊤) (calls_within w k) (calls_within w 32)
      agree f None vs is h = refl
      agree f (Some function) vs is h = read_same (calls_within w k) (calls_within w 32) f (Some function) vs (calls_same any_kind 32 k f vs le (well.definitions_end f function is))
