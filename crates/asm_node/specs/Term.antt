-- The value of a term.
use Rattle.std.specs.Prelude.{ℕ, zero, suc, true, false, nat_eq, if◌then◌else◌, List, [], ◌∷◌, Option, Some, None, slice_get}
use Rattle.std.specs.Option.{unwrap_or}
use Rattle.std.specs.FinMap as finite
use Rattle.asm_domain.specs.declared.value.Value.{Value}
use Rattle.asm_domain.specs.declared.value.Value.TheVariants.{Undef, Bool}
use Rattle.asm_sign.specs.declared.function.Function.{Function}
use Rattle.asm_sign.specs.Kind.{is_dynamic, is_kept}
use Rattle.asm_node.specs.declared.term.Binder.{Binder}
use Rattle.asm_node.specs.Tree.{Tree, Const, Var, Within, Get, Oper, Cond, Let, Quant, Trees, none, more}
use Rattle.asm_node.specs.Values.{result_of, quantified, within, are_arguments}
use Rattle.asm_node.specs.Machine.{Machine, Definition, State, Input, definition_of, constant_of, slot_at, tuples_of}

-- what an evaluation ends with: its answer, or the slot of the first location that it needs and the input lacks
pub data Outcome (A : Type 0) : Type 0 where
  Gives : (answer : A) → Outcome A
  Needs : (slot : ℕ) → Outcome A

-- goes on with the answer; a need ends the evaluation
abbrev pub and_then : {A B : Type 0} → Outcome A → (A → Outcome B) → Outcome B
and_then (Gives a) f = f a
and_then (Needs l) f = Needs l

-- the model, the state and the input that a term is evaluated in
pub record World : Type 0 where
  pub machine : Machine
  pub state : State
  pub input : Input

-- what each variable reads as
abbrev pub Reads : Type 0
Reads = ℕ → Outcome Value

-- what each defined function gives for arguments
abbrev pub Calls : Type 0
Calls = ℕ → List Value → Outcome Value

-- no variable is bound
abbrev pub unbound : Reads
unbound = λ y. Gives Undef

-- the variable has the value
abbrev pub with_value : ℕ → Value → Reads → Reads
with_value x v reads = λ y. if nat_eq x y then Gives v else reads y

-- the variables have the values at their places
abbrev pub with_tuple : List Binder → List Value → Reads → Reads
with_tuple (b ∷ bs) (v ∷ vs) reads = with_value b.variable v (with_tuple bs vs reads)
with_tuple _ _ reads = reads

-- the parameters have the values at their places, and no other variable is bound
abbrev pub parameters_have : List ℕ → List Value → Reads
parameters_have (x ∷ xs) (v ∷ vs) = with_value x v (parameters_have xs vs)
parameters_have _ _ = unbound

-- a kept location has the state's value
abbrev pub state_value : World → Option ℕ → Outcome Value
state_value w None = Gives Undef
state_value w (Some l) = Gives (unwrap_or (finite.get w.state l) Undef)

abbrev pub given : ℕ → Option Value → Outcome Value
given l (Some v) = Gives v
given l None = Needs l

-- a monitored location has the input's value; where the input has none, that is a need
abbrev pub input_value : World → Option ℕ → Outcome Value
input_value w None = Gives Undef
input_value w (Some l) = given l (finite.get w.input l)

-- the value of a function at arguments: `undef` where one of them is not in its domain, else that of the location,
-- or that of the definition
abbrev pub read : World → Calls → ℕ → Option Function → List Value → Outcome Value
read w calls f (Some function) vs =
    if are_arguments w.machine.signature.domains function.domains vs
    then (if is_dynamic function.kind
    then (if is_kept function.kind then state_value w (slot_at w.machine.signature f vs) else input_value w (slot_at w.machine.signature f vs))
    else calls f vs)
    else Gives Undef
read w calls f None vs = Gives Undef

-- the part that a guard's value takes: the first where it is true, the second where it is false, else the last
abbrev pub branch : {A : Type 0} → Value → A → A → A → A
branch (Bool true) then_part else_part other = then_part
branch (Bool false) then_part else_part other = else_part
branch _ then_part else_part other = other

-- the guard's values for all tuples in order
abbrev pub guard_values : (List Value → Outcome Value) → List (List Value) → Outcome (List Value)
guard_values guard [] = Gives []
guard_values guard (tuple ∷ tuples) = and_then (guard tuple) (λ v. and_then (guard_values guard tuples) (λ vs. Gives (v ∷ vs)))

abbrev mutual
  -- a constant has its value; a variable what it stands for
  -- `Within` has the term's value where that is in the domain, and else `undef`
  -- a read has the function's value at the arguments' values
  -- an operator has what it gives of the arguments' values
  -- a conditional has the value of the branch that its guard's value takes, and `undef` where that is `undef`
  -- a `let` has the body's value where the variable has the term's value
  -- a quantifier has the value by its guard's values for all tuples
  pub value_of : World → Calls → Reads → Tree → Outcome Value
  value_of w calls reads (Const v) = Gives v
  value_of w calls reads (Var x) = reads x
  value_of w calls reads (Within d t) = and_then (value_of w calls reads t) (λ v. Gives (within w.machine.signature.domains d v))
  value_of w calls reads (Get f ts) = and_then (values_of w calls reads ts) (read w calls f (slice_get w.machine.signature.functions f))
  value_of w calls reads (Oper o ts) = and_then (values_of w calls reads ts) (λ vs. Gives (result_of o vs))
  value_of w calls reads (Cond g t u) =
      and_then (value_of w calls reads g) (λ v. branch v (value_of w calls reads t) (value_of w calls reads u) (Gives Undef))
  value_of w calls reads (Let x t u) = and_then (value_of w calls reads t) (λ v. value_of w calls (with_value x v reads) u)
  value_of w calls reads (Quant q bs g) =
      and_then (guard_values (λ vs. value_of w calls (with_tuple bs vs reads) g) (tuples_of w.machine.signature bs)) (λ vs. Gives (quantified q vs))

  -- the values of terms from left to right
  pub values_of : World → Calls → Reads → Trees → Outcome (List Value)
  values_of w calls reads none = Gives []
  values_of w calls reads (more t ts) =
      and_then (value_of w calls reads t) (λ v. and_then (values_of w calls reads ts) (λ vs. Gives (v ∷ vs)))

-- the value of a body at arguments, which is `undef` outside the function's codomain; a constant of an abstract domain
-- has no body
abbrev pub defined_value : World → Calls → Function → Option Definition → List Value → Outcome Value
defined_value w calls function (Some definition) vs =
    and_then (value_of w calls (parameters_have definition.parameters vs) definition.body)
    (λ v. Gives (within w.machine.signature.domains function.codomain v))
defined_value w calls function None vs = Gives (constant_of w.machine.signature.domains function)

abbrev pub value_of_function : World → Calls → ℕ → Option Function → List Value → Outcome Value
value_of_function w calls f (Some function) vs = defined_value w calls function (definition_of w.machine.definitions f) vs
value_of_function w calls f None vs = Gives Undef

-- where no further definition may be entered, a function without one has its value, and another one has none
abbrev pub undefined_value : World → Function → Option Definition → Value
undefined_value w function (Some definition) = Undef
undefined_value w function None = constant_of w.machine.signature.domains function

abbrev pub value_at_last : World → ℕ → Option Function → Value
value_at_last w f (Some function) = undefined_value w function (definition_of w.machine.definitions f)
value_at_last w f None = Undef

-- what the defined functions give where at most n definitions stand inside one another
abbrev pub calls_within : World → ℕ → Calls
calls_within w zero f vs = Gives (value_at_last w f (slice_get w.machine.signature.functions f))
calls_within w (suc n) f vs = value_of_function w (calls_within w n) f (slice_get w.machine.signature.functions f) vs

-- what the defined functions give: in a model no chain of definitions is longer than 32
abbrev pub calls_of : World → Calls
calls_of w = calls_within w 32

-- what stands in the place of each variable: a closed term
abbrev pub Places : Type 0
Places = ℕ → Tree

-- no variable has a place
abbrev pub nowhere : Places
nowhere = λ y. Const Undef

abbrev pub put : ℕ → Tree → Places → Places
put x t e = λ y. if nat_eq x y then t else e y

-- the variables have the values at their places
abbrev pub put_tuple : List Binder → List Value → Places → Places
put_tuple (b ∷ bs) (v ∷ vs) e = put b.variable (Const v) (put_tuple bs vs e)
put_tuple _ _ e = e

-- the variables stand for themselves
abbrev pub keep : List Binder → Places → Places
keep [] e = e
keep (b ∷ bs) e = put b.variable (Var b.variable) (keep bs e)

abbrev mutual
  -- the term with what stands in the places of its variables; bound ones stay
  pub close : Places → Tree → Tree
  close e (Const v) = Const v
  close e (Var x) = e x
  close e (Within d t) = Within d (close e t)
  close e (Get f ts) = Get f (close_all e ts)
  close e (Oper o ts) = Oper o (close_all e ts)
  close e (Cond g t u) = Cond (close e g) (close e t) (close e u)
  close e (Let x t u) = Let x (close e t) (close (put x (Var x) e) u)
  close e (Quant q bs g) = Quant q bs (close (keep bs e) g)

  pub close_all : Places → Trees → Trees
  close_all e none = none
  close_all e (more t ts) = more (close e t) (close_all e ts)

-- each variable reads as the closed term in its place
abbrev pub reads_at : World → Places → Reads
reads_at w e = λ x. value_of w (calls_of w) unbound (e x)

-- the value of a term whose variables stand for closed terms
abbrev pub val : World → Places → Tree → Outcome Value
val w e t = value_of w (calls_of w) (reads_at w e) t

-- the values of terms from left to right
abbrev pub vals : World → Places → Trees → Outcome (List Value)
vals w e ts = values_of w (calls_of w) (reads_at w e) ts
