-- There is at most one proof that a term is exact, and that the initial terms are.
use Rattle.std.proofs.Common.{ℕ, zero, suc, List, [], ◌∷◌, true, false, nat_eq, slice_get, Option, Some, None}
use Rattle.std.specs.Prelude.{⊤, MatchBool}
use Rattle.std.proofs.Props.{props}
use Rattle.std.specs.Coded.{Unit-prop}
use Rattle.asm_domain.specs.declared.value.Value.{Value}
use Rattle.asm_domain.specs.declared.value.Value.TheVariants.{Undef, Bool, Int, Elem}
use Rattle.asm_sign.specs.declared.function.Function.{Function}
use Rattle.asm_node.specs.declared.term.Binder.{Binder}
use Rattle.asm_node.specs.Tree.{Tree, Const, Var, Within, Get, Oper, Cond, Let, Quant, Trees, none, more}
use Rattle.asm_node.specs.Values.{result_of}
use Rattle.asm_node.specs.Machine.{Machine, Definition, definition_of}
use Rattle.asm_node.specs.Step.{alone}
use Rattle.asm_node.specs.Term.{World, Calls, Reads, with_value, with_tuple, parameters_have, calls_within, calls_of}
use Rattle.asm_node.specs.Exact.{IsSmall, Each, but, but_all, nothing, OfCalls, IsOfCall, IsExactIn, AreExactIn, IsExactBody, exact_within}
use Rattle.asm_eval.specs.Beginning.{AreInitialsExact}

small_prop : (v : Value) → IsProp (IsSmall v)
small_prop Undef = Unit-prop
small_prop (Bool b) = Unit-prop
small_prop (Int z) = hlevel props
small_prop (Elem d k) = Unit-prop

but_prop : (x : ℕ) (each : Each) → ((y : ℕ) → IsProp (each y)) → (y : ℕ) → IsProp (but x each y)
but_prop x each single y = elim (nat_eq x y) as (λ b. IsProp (MatchBool b ⊤ (each y))) [ true ↦ Unit-prop | false ↦ single y ]

but_all_prop : (bs : List Binder) (each : Each) → ((y : ℕ) → IsProp (each y)) → (y : ℕ) → IsProp (but_all bs each y)
but_all_prop [] each single = single
but_all_prop (b ∷ bs) each single = but_prop b.variable (but_all bs each) (but_all_prop bs each single)

module _ (w : World) (calls : Calls) (of_calls : OfCalls) (single : (f : ℕ) (vs : List Value) → IsProp (of_calls f vs)) where
  of_call_prop : (f : ℕ) (function : Option Function) (vs : List Value) → IsProp (IsOfCall w of_calls f function vs)
  of_call_prop f None vs = Unit-prop
  of_call_prop f (Some function) vs = hlevel (single f vs)

  mutual
    pub exact_prop : (reads : Reads) (each : Each) → ((y : ℕ) → IsProp (each y)) → (t : Tree) → IsProp (IsExactIn w calls of_calls reads each t)
    exact_prop reads each e (Const v) = Unit-prop
    exact_prop reads each e (Var x) = e x
    exact_prop reads each e (Within d t) = exact_prop reads each e t
    exact_prop reads each e (Get f ts) = hlevel (all_exact_prop reads each e ts, λ (vs : List Value). of_call_prop f (slice_get w.machine.signature.functions f) vs)
    exact_prop reads each e (Oper o ts) = hlevel (all_exact_prop reads each e ts, λ (vs : List Value). small_prop (result_of o vs))
    exact_prop reads each e (Cond g t u) = hlevel (exact_prop reads each e g, exact_prop reads each e t, exact_prop reads each e u)
    exact_prop reads each e (Let x t u) = hlevel (exact_prop reads each e t, λ (v : Value). exact_prop (with_value x v reads) (but x each) (but_prop x each e) u)
    exact_prop reads each e (Quant q bs g) = hlevel (λ (vs : List Value). exact_prop (with_tuple bs vs reads) (but_all bs each) (but_all_prop bs each e) g)

    pub all_exact_prop : (reads : Reads) (each : Each) → ((y : ℕ) → IsProp (each y)) → (ts : Trees) → IsProp (AreExactIn w calls of_calls reads each ts)
    all_exact_prop reads each e none = Unit-prop
    all_exact_prop reads each e (more t ts) = hlevel (exact_prop reads each e t, all_exact_prop reads each e ts)

pub nothing_prop : (y : ℕ) → IsProp (nothing y)
nothing_prop y = Unit-prop

pub body_prop : (w : World) (calls : Calls) (of_calls : OfCalls) → ((f : ℕ) (vs : List Value) → IsProp (of_calls f vs)) → (o : Option Definition) (vs : List Value) → IsProp (IsExactBody w calls of_calls o vs)
body_prop w calls of_calls single None vs = Unit-prop
body_prop w calls of_calls single (Some d) vs = exact_prop w calls of_calls single (parameters_have d.parameters vs) nothing nothing_prop d.body

pub within_prop : (w : World) (n : ℕ) (f : ℕ) (vs : List Value) → IsProp (exact_within w n f vs)
within_prop w zero f vs = Unit-prop
within_prop w (suc n) f vs = body_prop w (calls_within w n) (exact_within w n) (within_prop w n) (definition_of w.machine.definitions f) vs

pub initials_prop : (m : Machine) → IsProp (AreInitialsExact m)
initials_prop m = hlevel (λ (slot : ℕ) (location : ℕ × List Value). body_prop (alone m) (calls_of (alone m)) (exact_within (alone m) 32) (within_prop (alone m) 32) (definition_of m.initial_terms location.0) location.1)
