-- Under an input that gives more, a term that needs nothing has the same value.
use Rattle.std.proofs.Common.{◌≡◌, ℕ, zero, suc, List, [], ◌∷◌, Option, Some, None, Bool as Truth, true, false, if◌then◌else◌, nat_eq, slice_get, refl, ap}
use Rattle.std.specs.FinMap as finite
use Rattle.asm_domain.specs.declared.value.Value.{Value}
use Rattle.asm_domain.specs.declared.value.Value.TheVariants.{Undef, Bool, Int, Elem}
use Rattle.asm_sign.specs.declared.function.Function.{Function}
use Rattle.asm_sign.specs.Kind.{is_dynamic, is_kept}
use Rattle.asm_node.specs.declared.term.Binder.{Binder}
use Rattle.asm_node.specs.Tree.{Tree, Const, Var, Within, Get, Oper, Cond, Let, Quant, Trees, none, more}
use Rattle.asm_node.specs.Values.{are_arguments}
use Rattle.asm_node.specs.Machine.{Machine, State, Input, Definition, definition_of, slot_at, tuples_of}
use Rattle.asm_node.specs.Term.{Outcome, Gives, Needs, and_then, World, Reads, Calls, unbound, with_value, with_tuple, parameters_have, input_value, state_value, given, read, branch, guard_values, value_of, values_of, defined_value, value_of_function, calls_within, calls_of, Places, reads_at, val, vals}
use Rattle.asm_laws.specs.Extending.{GivesAll, Keeps}

keeps_then : {A B : Type 0} (o p : Outcome A) (f g : A → Outcome B) → Keeps o p → ((a : A) → Keeps (f a) (g a)) → Keeps (and_then o f) (and_then p g)
keeps_then (Gives a) p f g same each = rw same (each a)
keeps_then (Needs l) p f g same each = tt

itself : {A : Type 0} (o : Outcome A) → Keeps o o
itself (Gives a) = refl
itself (Needs l) = tt

abbrev pub WithInput : Machine → State → Input → World
WithInput m s i = record { machine = m; state = s; input = i }

keeps_if : {A : Type 0} (b : Truth) (o p q r : Outcome A) → Keeps o p → Keeps q r → Keeps (if b then o else q) (if b then p else r)
keeps_if true o p q r first second = first
keeps_if false o p q r first second = second

keeps_branch : (v : Value) (o p q r : Outcome Value) → Keeps o p → Keeps q r → Keeps (branch v o q (Gives Undef)) (branch v p r (Gives Undef))
keeps_branch (Bool true) o p q r first second = first
keeps_branch (Bool false) o p q r first second = second
keeps_branch Undef o p q r first second = refl
keeps_branch (Int z) o p q r first second = refl
keeps_branch (Elem d k) o p q r first second = refl

module _ (m : Machine) (s : State) (i j : Input) (more_given : GivesAll i j) where
  abbrev w : World
  w = WithInput m s i

  abbrev w' : World
  w' = WithInput m s j

  keeps_given : (l : ℕ) (o : Option Value) → finite.get i l ≡ o → Keeps (given l o) (given l (finite.get j l))
  keeps_given l (Some v) is = ap (given l) (more_given l v is)
  keeps_given l None is = tt

  keeps_input : (slot : Option ℕ) → Keeps (input_value w slot) (input_value w' slot)
  keeps_input None = refl
  keeps_input (Some l) = keeps_given l (finite.get i l) refl

  module _ (calls calls' : Calls) (same_calls : (f : ℕ) (vs : List Value) → Keeps (calls f vs) (calls' f vs)) where
    keeps_read : (f : ℕ) (function : Option Function) (vs : List Value) → Keeps (read w calls f function vs) (read w' calls' f function vs)
    keeps_read f None vs = refl
    keeps_read f (Some function) vs =
        keeps_if (are_arguments m.signature.domains function.domains vs) _ _ _ _
        (keeps_if (is_dynamic function.kind) _ _ _ _
        (keeps_if (is_kept function.kind) _ _ _ _ (itself (state_value w (slot_at m.signature f vs))) (keeps_input (slot_at m.signature f vs)))
        (same_calls f vs))
        refl

    abbrev Alike : Reads → Reads → Type 0
    Alike reads reads' = (x : ℕ) → Keeps (reads x) (reads' x)

    with_value-alike : (x : ℕ) (v : Value) (reads reads' : Reads) → Alike reads reads' → Alike (with_value x v reads) (with_value x v reads')
    with_value-alike x v reads reads' alike y = keeps_if (nat_eq x y) (Gives v) (Gives v) (reads y) (reads' y) refl (alike y)

    with_tuple-alike : (bs : List Binder) (vs : List Value) (reads reads' : Reads) → Alike reads reads' → Alike (with_tuple bs vs reads) (with_tuple bs vs reads')
    with_tuple-alike [] vs reads reads' alike = alike
    with_tuple-alike (b ∷ bs) [] reads reads' alike = alike
    with_tuple-alike (b ∷ bs) (v ∷ vs) reads reads' alike = with_value-alike b.variable v (with_tuple bs vs reads) (with_tuple bs vs reads') (with_tuple-alike bs vs reads reads' alike)

    keeps_guards : (guard guard' : List Value → Outcome Value) → ((vs : List Value) → Keeps (guard vs) (guard' vs)) → (tuples : List (List Value)) → Keeps (guard_values guard tuples) (guard_values guard' tuples)
    keeps_guards guard guard' each [] = refl
    keeps_guards guard guard' each (tuple ∷ tuples) =
        keeps_then (guard tuple) (guard' tuple) _ _ (each tuple) (λ v. keeps_then (guard_values guard tuples) (guard_values guard' tuples) _ _ (keeps_guards guard guard' each tuples) (λ vs. refl))

    mutual
      pub keeps_value : (t : Tree) (reads reads' : Reads) → Alike reads reads' → Keeps (value_of w calls reads t) (value_of w' calls' reads' t)
      keeps_value (Const v) reads reads' alike = refl
      keeps_value (Var x) reads reads' alike = alike x
      keeps_value (Within d t) reads reads' alike = keeps_then (value_of w calls reads t) (value_of w' calls' reads' t) _ _ (keeps_value t reads reads' alike) (λ v. refl)
      keeps_value (Get f ts) reads reads' alike =
          keeps_then (values_of w calls reads ts) (values_of w' calls' reads' ts) _ _ (keeps_values ts reads reads' alike) (keeps_read f (slice_get m.signature.functions f))
      keeps_value (Oper o ts) reads reads' alike = keeps_then (values_of w calls reads ts) (values_of w' calls' reads' ts) _ _ (keeps_values ts reads reads' alike) (λ vs. refl)
      keeps_value (Cond g t u) reads reads' alike =
          keeps_then (value_of w calls reads g) (value_of w' calls' reads' g) _ _ (keeps_value g reads reads' alike)
          (λ v. keeps_branch v _ _ _ _ (keeps_value t reads reads' alike) (keeps_value u reads reads' alike))
      keeps_value (Let x t u) reads reads' alike =
          keeps_then (value_of w calls reads t) (value_of w' calls' reads' t) _ _ (keeps_value t reads reads' alike)
          (λ v. keeps_value u (with_value x v reads) (with_value x v reads') (with_value-alike x v reads reads' alike))
      keeps_value (Quant q bs g) reads reads' alike =
          keeps_then (guard_values (λ vs. value_of w calls (with_tuple bs vs reads) g) (tuples_of m.signature bs)) (guard_values (λ vs. value_of w' calls' (with_tuple bs vs reads') g) (tuples_of m.signature bs)) _ _
          (keeps_guards _ _ (λ vs. keeps_value g (with_tuple bs vs reads) (with_tuple bs vs reads') (with_tuple-alike bs vs reads reads' alike)) (tuples_of m.signature bs))
          (λ vs. refl)

      pub keeps_values : (ts : Trees) (reads reads' : Reads) → Alike reads reads' → Keeps (values_of w calls reads ts) (values_of w' calls' reads' ts)
      keeps_values none reads reads' alike = refl
      keeps_values (more t ts) reads reads' alike =
          keeps_then (value_of w calls reads t) (value_of w' calls' reads' t) _ _ (keeps_value t reads reads' alike)
          (λ v. keeps_then (values_of w calls reads ts) (values_of w' calls' reads' ts) _ _ (keeps_values ts reads reads' alike) (λ vs. refl))

    keeps_defined : (f : ℕ) (function : Option Function) (vs : List Value) → Keeps (value_of_function w calls f function vs) (value_of_function w' calls' f function vs)
    keeps_defined f None vs = refl
    keeps_defined f (Some function) vs = by_definition (definition_of m.definitions f)
      where
        by_definition : (d : Option Definition) → Keeps (defined_value w calls function d vs) (defined_value w' calls' function d vs)
        by_definition None = refl
        by_definition (Some d) =
            keeps_then (value_of w calls (parameters_have d.parameters vs) d.body) (value_of w' calls' (parameters_have d.parameters vs) d.body) _ _
            (keeps_value d.body (parameters_have d.parameters vs) (parameters_have d.parameters vs) (λ x. itself (parameters_have d.parameters vs x))) (λ v. refl)

  keeps_calls : (n : ℕ) (f : ℕ) (vs : List Value) → Keeps (calls_within w n f vs) (calls_within w' n f vs)
  keeps_calls zero f vs = refl
  keeps_calls (suc n) f vs = keeps_defined (calls_within w n) (calls_within w' n) (keeps_calls n) f (slice_get m.signature.functions f) vs

  -- a term that needs nothing has the same value under an input that gives more
  pub val-kept : (e : Places) (t : Tree) → Keeps (val w e t) (val w' e t)
  val-kept e t =
      keeps_value (calls_of w) (calls_of w') (keeps_calls 32) t (reads_at w e) (reads_at w' e)
      (λ x. keeps_value (calls_of w) (calls_of w') (keeps_calls 32) (e x) unbound unbound (λ y. refl))

  -- and so have terms
  pub vals-kept : (e : Places) (ts : Trees) → Keeps (vals w e ts) (vals w' e ts)
  vals-kept e ts =
      keeps_values (calls_of w) (calls_of w') (keeps_calls 32) ts (reads_at w e) (reads_at w' e)
      (λ x. keeps_value (calls_of w) (calls_of w') (keeps_calls 32) (e x) unbound unbound (λ y. refl))
