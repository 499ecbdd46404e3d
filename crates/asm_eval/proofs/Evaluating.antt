-- How the value of a term follows from those of its parts.
use Rattle.std.proofs.Common.{append_assoc, add-one, drop-cons, ◌≡◌, ℕ, zero, suc, ◌+◌, ◌-◌, ◌*◌, ◌≤◌, ◌<◌, true, false, if◌then◌else◌, List, [], ◌∷◌, ◌++◌, refl, sym, ap, ◌∙◌, subst, arith, length, drop, slice_get, nat_eq, Some, Option, get_or}
use Rattle.std.specs.declared.rc.Rc.{Rc}
use Rattle.std.specs.declared.alloc.Global.{Global}
use Rattle.asm_domain.specs.declared.value.Value.{Value}
use Rattle.asm_sign.specs.declared.function.Function.{Function}
use Rattle.asm_node.specs.declared.term.Term.{Term}
use Rattle.asm_node.specs.Tree.{plain, plain_all}
use Rattle.asm_node.specs.Values.{within}
use Rattle.asm_node.specs.Machine.{Definition, definition_of}
use Rattle.asm_node.specs.Term.{World, Reads, Calls, Outcome, Gives, Needs, and_then, value_of, values_of, guard_values, calls_within, value_of_function, defined_value, parameters_have}
use Rattle.asm_node.specs.Exact.{Each, nothing, OfCalls, exact_within, IsExactBody, IsExactIn, AreExactIn}
use Rattle.asm_eval.specs.declared.error.EvalError.{EvalError}
use Rattle.asm_eval.specs.declared.error.EvalError.TheVariants.{Need, Memory}
use Rattle.asm_eval.specs.Answer.{Ends}
use Rattle.asm_eval.specs.Work.{room, rooms}

-- an error ends the evaluation
pub passes : {B D : Type 0} (e : EvalError) (o : Outcome B) (f : B → Outcome D) → Ends e o → Ends e (and_then o f)
passes (Need l) o f is = ap (λ x. and_then x f) is
passes Memory o f is = tt

-- a definition's room is within that of all
pub room-found : (ds : List Definition) (f : ℕ) (d : Definition) → Some d ≡ definition_of ds f → room d ≤ rooms ds
room-found [] f d is = absurd (cc is)
room-found (x ∷ ds) f d is =
    elim (nat_eq x.function f) as (λ b. (◌≡◌ {A = Option Definition} (Some d) (if b then Some x else definition_of ds f)) → room d ≤ rooms (x ∷ ds)) [
      | true ↦ λ is. let e : d ≡ x = cc in rw e (omega arith)
      | false ↦ λ is. let less : room d ≤ rooms ds = room-found ds f d is in omega (arith, less)
    ] is

-- a definition is entered
pub entered : (w : World) (n f : ℕ) (vs : List Value) (function : Function) (d : Definition) → 0 < n → slice_get w.machine.signature.functions f ≡ Some function → Some d ≡ definition_of w.machine.definitions f
    → calls_within w n f vs ≡ and_then (value_of w (calls_within w (n - 1)) (parameters_have d.parameters vs) d.body) (λ v. Gives (within w.machine.signature.domains function.codomain v))
entered w zero f vs function d some is defined = absurd (omega arith)
entered w (suc n) f vs function d some is defined =
    let down : suc n - 1 ≡ n = omega arith in
    ap (λ o. value_of_function w (calls_within w n) f o vs) is ∙ ap (λ o. defined_value w (calls_within w n) function o vs) (sym defined)
    ∙ ap (λ m. and_then (value_of w (calls_within w m) (parameters_have d.parameters vs) d.body) (λ v. Gives (within w.machine.signature.domains function.codomain v))) (sym down)

pub entered-exact : (w : World) (n f : ℕ) (vs : List Value) (d : Definition) → 0 < n → Some d ≡ definition_of w.machine.definitions f → exact_within w n f vs
    → IsExactIn w (calls_within w (n - 1)) (exact_within w (n - 1)) (parameters_have d.parameters vs) nothing d.body
entered-exact w zero f vs d some defined exact = absurd (omega arith)
entered-exact w (suc n) f vs d some defined exact =
    let down : suc n - 1 ≡ n = omega arith in
    subst (λ m. IsExactIn w (calls_within w m) (exact_within w m) (parameters_have d.parameters vs) nothing d.body) (sym down)
    (subst (λ o. IsExactBody w (calls_within w n) (exact_within w n) o vs) (sym defined) exact)

-- there is room for what a definition takes
pub less_work : (left rooms n k : ℕ) → 0 < left → n < rooms + k → (left - 1) * rooms + n < left * rooms + k
less_work zero rooms n k some h = absurd (omega arith)
less_work (suc left) rooms n k some h = let down : suc left - 1 ≡ left = omega arith in rw down (omega arith)

-- a term of a list of exact ones
pub exact-item : (w : World) (calls : Calls) (of_calls : OfCalls) (reads : Reads) (each : Each) (ts : List (Rc Term Global)) (k : ℕ) (t : Rc Term Global) → k < length ts → t ≡ get_or ts k t
    → AreExactIn w calls of_calls reads each (plain_all ts) → IsExactIn w calls of_calls reads each (plain t.value)
exact-item w calls of_calls reads each [] k t lt is exact = absurd (omega arith)
exact-item w calls of_calls reads each (x ∷ ts) zero t lt is exact = subst (λ y. IsExactIn w calls of_calls reads each (plain y.value)) (sym is) exact.0
exact-item w calls of_calls reads each (x ∷ ts) (suc k) t lt is exact = exact-item w calls of_calls reads each ts k t (omega arith) is exact.1

and_then-pushed : (o : Outcome (List Value)) (xs : List Value) (v : Value) → and_then (and_then o (λ vs. Gives (v ∷ vs))) (λ vs. Gives (xs ++ vs)) ≡ and_then o (λ vs. Gives ((xs ++ v ∷ []) ++ vs))
and_then-pushed (Gives vs) xs v = ap Gives (sym (append_assoc xs (v ∷ []) vs))
and_then-pushed (Needs l) xs v = refl

-- one step of the terms that are left
pub values_of-drop : (w : World) (calls : Calls) (reads : Reads) (ts : List (Rc Term Global)) (i : ℕ) (t : Rc Term Global) → i < length ts → t ≡ get_or ts i t
    → values_of w calls reads (plain_all (drop i ts)) ≡ and_then (value_of w calls reads (plain t.value)) (λ v. and_then (values_of w calls reads (plain_all (drop (i + 1) ts))) (λ vs. Gives (v ∷ vs)))
values_of-drop w calls reads ts i t h is = rw (drop-cons ts i t, add-one, sym is) refl

-- the next term's value is added to those so far
pub values_of-step : (w : World) (calls : Calls) (reads : Reads) (ts : List (Rc Term Global)) (i : ℕ) (t : Rc Term Global) (v : Value) (xs ys : List Value) (all : Outcome (List Value))
    → i < length ts → t ≡ get_or ts i t → value_of w calls reads (plain t.value) ≡ Gives v → ys ≡ xs ++ v ∷ []
    → all ≡ and_then (values_of w calls reads (plain_all (drop i ts))) (λ vs. Gives (xs ++ vs))
    → all ≡ and_then (values_of w calls reads (plain_all (drop (i + 1) ts))) (λ vs. Gives (ys ++ vs))
values_of-step w calls reads ts i t v xs ys all h is gives pushed so_far =
    so_far ∙ rw (values_of-drop w calls reads ts i t h is, gives, pushed) (and_then-pushed _ xs v)

-- one step of the tuples that are left
pub guards-drop : (guard : List Value → Outcome Value) (ts : List (List Value)) (i : ℕ) (t : List Value) → i < length ts → t ≡ get_or ts i t
    → guard_values guard (drop i ts) ≡ and_then (guard t) (λ v. and_then (guard_values guard (drop (i + 1) ts)) (λ vs. Gives (v ∷ vs)))
guards-drop guard ts i t h is = rw (drop-cons ts i t, add-one, sym is) refl

-- the next tuple's value is added to those so far
pub guards-step : (guard : List Value → Outcome Value) (ts : List (List Value)) (i : ℕ) (t : List Value) (v : Value) (xs ys : List Value) (all : Outcome (List Value))
    → i < length ts → t ≡ get_or ts i t → guard t ≡ Gives v → ys ≡ xs ++ v ∷ []
    → all ≡ and_then (guard_values guard (drop i ts)) (λ vs. Gives (xs ++ vs))
    → all ≡ and_then (guard_values guard (drop (i + 1) ts)) (λ vs. Gives (ys ++ vs))
guards-step guard ts i t v xs ys all h is gives pushed so_far =
    so_far ∙ rw (guards-drop guard ts i t h is, gives, pushed) (and_then-pushed _ xs v)

and_then-itself : (o : Outcome (List Value)) → and_then o (λ vs. Gives vs) ≡ o
and_then-itself (Gives vs) = refl
and_then-itself (Needs l) = refl

-- before the first tuple
pub guards-first : (guard : List Value → Outcome Value) (ts items : List (List Value)) (xs : List Value) → items ≡ ts → xs ≡ []
    → guard_values guard ts ≡ and_then (guard_values guard (drop 0 items)) (λ vs. Gives (xs ++ vs))
guards-first guard ts items xs same none = rw (same, none) (sym (and_then-itself (guard_values guard ts)))
