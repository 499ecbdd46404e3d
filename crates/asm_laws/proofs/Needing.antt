-- Under a full input nothing is needed.
use Rattle.std.proofs.Common.{◌≡◌, ℕ, zero, suc, List, [], ◌∷◌, Option, Some, None, Bool as Truth, true, false, if◌then◌else◌, nat_eq, slice_get, refl, ap, ◌∙◌}
use Rattle.std.specs.Prelude.{⊤, IsSome}
use Rattle.std.specs.FinMap as finite
use Rattle.asm_domain.specs.declared.value.Value.{Value}
use Rattle.asm_domain.specs.declared.value.Value.TheVariants.{Undef, Bool, Int, Elem}
use Rattle.asm_sign.specs.declared.function.Function.{Function}
use Rattle.asm_sign.specs.declared.function.FunKind.{FunKind}
use Rattle.asm_sign.specs.declared.function.FunKind.TheVariants.{Static, Derived, Controlled, Shared, Monitored, Out}
use Rattle.asm_sign.specs.Kind.{is_dynamic, is_kept}
use Rattle.asm_node.specs.declared.term.Binder.{Binder}
use Rattle.asm_node.specs.Tree.{Tree, Const, Var, Within, Get, Oper, Cond, Let, Quant, Trees, none, more}
use Rattle.asm_node.specs.Values.{are_arguments}
use Rattle.asm_node.specs.Machine.{Definition, definition_of, slot_at, tuples_of, has_kind, is_monitored}
use Rattle.asm_node.specs.Term.{Outcome, Gives, Needs, and_then, World, Reads, Calls, unbound, with_value, with_tuple, parameters_have, input_value, state_value, given, read, branch, guard_values, value_of, values_of, defined_value, value_of_function, calls_within, calls_of, Places, reads_at, val, vals}
use Rattle.asm_node.specs.Step.{IsFull}
use Rattle.asm_node.proofs.Valued.{function_at_slot}

-- an evaluation needs nothing
abbrev pub HasAnswer : {A : Type 0} → Outcome A → Type 0
HasAnswer (Gives a) = ⊤
HasAnswer (Needs l) = ⊥

pub answer_of : {A : Type 0} (o : Outcome A) → HasAnswer o → (a : A) × (o ≡ Gives a)
answer_of (Gives a) h = (a, refl)
answer_of (Needs l) h = absurd h

has_then : {A B : Type 0} (o : Outcome A) (f : A → Outcome B) → HasAnswer o → ((a : A) → HasAnswer (f a)) → HasAnswer (and_then o f)
has_then (Gives a) f h k = k a
has_then (Needs l) f h k = absurd h

has_if : {A : Type 0} (b : Truth) (o p : Outcome A) → (b ≡ true → HasAnswer o) → (b ≡ false → HasAnswer p) → HasAnswer (if b then o else p)
has_if true o p h k = h refl
has_if false o p h k = k refl

has_branch : (v : Value) (o p q : Outcome Value) → HasAnswer o → HasAnswer p → HasAnswer q → HasAnswer (branch v o p q)
has_branch (Bool true) o p q h k l = h
has_branch (Bool false) o p q h k l = k
has_branch Undef o p q h k l = l
has_branch (Int z) o p q h k l = l
has_branch (Elem d n) o p q h k l = l

has_guards : (guard : List Value → Outcome Value) → ((vs : List Value) → HasAnswer (guard vs)) → (tuples : List (List Value)) → HasAnswer (guard_values guard tuples)
has_guards guard h [] = tt
has_guards guard h (tuple ∷ tuples) = has_then (guard tuple) _ (h tuple) (λ v. has_then (guard_values guard tuples) _ (has_guards guard h tuples) (λ vs. tt))

-- a dynamic function whose locations no state keeps is monitored
monitored : (kind : FunKind) → is_dynamic kind ≡ true → is_kept kind ≡ false → is_monitored kind ≡ true
monitored Static d k = absurd (cc (d))
monitored Derived d k = absurd (cc (d))
monitored Controlled d k = absurd (cc (k))
monitored Shared d k = absurd (cc (k))
monitored Monitored d k = refl
monitored Out d k = absurd (cc (k))

module _ (w : World) (full : IsFull w.machine w.input) where
  has_input : (f : ℕ) (function : Function) (vs : List Value) → slice_get w.machine.signature.functions f ≡ Some function → is_monitored function.kind ≡ true → (slot : Option ℕ) → slot_at w.machine.signature f vs ≡ slot → HasAnswer (input_value w slot)
  has_input f function vs is asked None at = tt
  has_input f function vs is asked (Some l) at = found (finite.get w.input l) (full.gives l (ap (has_kind is_monitored) (function_at_slot w.machine f vs l at ∙ is) ∙ asked))
    where
      found : (o : Option Value) → IsSome o → HasAnswer (given l o)
      found (Some v) some = tt
      found None some = absurd (cc (some))

  module _ (calls : Calls) (has_calls : (f : ℕ) (vs : List Value) → HasAnswer (calls f vs)) where
    has_read : (f : ℕ) (function : Option Function) (vs : List Value) → slice_get w.machine.signature.functions f ≡ function → HasAnswer (read w calls f function vs)
    has_read f None vs is = tt
    has_read f (Some function) vs is =
        has_if (are_arguments w.machine.signature.domains function.domains vs) _ _
        (λ a. has_if (is_dynamic function.kind) _ _
        (λ d. has_if (is_kept function.kind) _ _ (λ k. has_state (slot_at w.machine.signature f vs)) (λ k. has_input f function vs is (monitored function.kind d k) (slot_at w.machine.signature f vs) refl))
        (λ d. has_calls f vs))
        (λ a. tt)
      where
        has_state : (slot : Option ℕ) → HasAnswer (state_value w slot)
        has_state None = tt
        has_state (Some l) = tt

    abbrev HaveAnswers : Reads → Type 0
    HaveAnswers reads = (x : ℕ) → HasAnswer (reads x)

    have_value : (x : ℕ) (v : Value) (reads : Reads) → HaveAnswers reads → HaveAnswers (with_value x v reads)
    have_value x v reads h y = has_if (nat_eq x y) (Gives v) (reads y) (λ e. tt) (λ e. h y)

    have_tuple : (bs : List Binder) (vs : List Value) (reads : Reads) → HaveAnswers reads → HaveAnswers (with_tuple bs vs reads)
    have_tuple [] vs reads h = h
    have_tuple (b ∷ bs) [] reads h = h
    have_tuple (b ∷ bs) (v ∷ vs) reads h = have_value b.variable v (with_tuple bs vs reads) (have_tuple bs vs reads h)

    have_parameters : (xs : List ℕ) (vs : List Value) → HaveAnswers (parameters_have xs vs)
    have_parameters [] vs = λ y. tt
    have_parameters (x ∷ xs) [] = λ y. tt
    have_parameters (x ∷ xs) (v ∷ vs) = have_value x v (parameters_have xs vs) (have_parameters xs vs)

    mutual
      pub has_value : (t : Tree) (reads : Reads) → HaveAnswers reads → HasAnswer (value_of w calls reads t)
      has_value (Const v) reads h = tt
      has_value (Var x) reads h = h x
      has_value (Within d t) reads h = has_then (value_of w calls reads t) _ (has_value t reads h) (λ v. tt)
      has_value (Get f ts) reads h = has_then (values_of w calls reads ts) _ (has_values ts reads h) (λ vs. has_read f (slice_get w.machine.signature.functions f) vs refl)
      has_value (Oper o ts) reads h = has_then (values_of w calls reads ts) _ (has_values ts reads h) (λ vs. tt)
      has_value (Cond g t u) reads h = has_then (value_of w calls reads g) _ (has_value g reads h) (λ v. has_branch v _ _ _ (has_value t reads h) (has_value u reads h) tt)
      has_value (Let x t u) reads h = has_then (value_of w calls reads t) _ (has_value t reads h) (λ v. has_value u (with_value x v reads) (have_value x v reads h))
      has_value (Quant q bs g) reads h =
          has_then (guard_values (λ vs. value_of w calls (with_tuple bs vs reads) g) (tuples_of w.machine.signature bs)) _
          (has_guards _ (λ vs. has_value g (with_tuple bs vs reads) (have_tuple bs vs reads h)) (tuples_of w.machine.signature bs)) (λ vs. tt)

      pub has_values : (ts : Trees) (reads : Reads) → HaveAnswers reads → HasAnswer (values_of w calls reads ts)
      has_values none reads h = tt
      has_values (more t ts) reads h = has_then (value_of w calls reads t) _ (has_value t reads h) (λ v. has_then (values_of w calls reads ts) _ (has_values ts reads h) (λ vs. tt))

    has_function : (f : ℕ) (function : Option Function) (vs : List Value) → HasAnswer (value_of_function w calls f function vs)
    has_function f None vs = tt
    has_function f (Some function) vs = of_definition (definition_of w.machine.definitions f)
      where
        of_definition : (d : Option Definition) → HasAnswer (defined_value w calls function d vs)
        of_definition None = tt
        of_definition (Some d) = has_then (value_of w calls (parameters_have d.parameters vs) d.body) _ (has_value d.body (parameters_have d.parameters vs) (have_parameters d.parameters vs)) (λ v. tt)

  has_calls : (n f : ℕ) (vs : List Value) → HasAnswer (calls_within w n f vs)
  has_calls zero f vs = tt
  has_calls (suc n) f vs = has_function (calls_within w n) (has_calls n) f (slice_get w.machine.signature.functions f) vs

  pub val_answers : (e : Places) (t : Tree) → HasAnswer (val w e t)
  val_answers e t = has_value (calls_of w) (has_calls 32) t (reads_at w e) (λ x. has_value (calls_of w) (has_calls 32) (e x) unbound (λ y. tt))

  pub vals_answer : (e : Places) (ts : Trees) → HasAnswer (vals w e ts)
  vals_answer e ts = has_values (calls_of w) (has_calls 32) ts (reads_at w e) (λ x. has_value (calls_of w) (has_calls 32) (e x) unbound (λ y. tt))

  -- a term has a value, whatever closed terms its variables stand for
  pub term_answered : (e : Places) (t : Tree) → (v : Value) × (val w e t ≡ Gives v)
  term_answered e t = answer_of (val w e t) (val_answers e t)
