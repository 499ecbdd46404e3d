-- Where the numbers that an evaluation meets stay far within 64 bits.
use Rattle.std.specs.Prelude.{◌≡◌, ℕ, zero, suc, true, ⊤, List, Option, Some, None, slice_get, nat_eq, MatchBool, Contains, [], ◌∷◌}
use Rattle.asm_domain.specs.declared.value.Value.{Value}
use Rattle.asm_domain.specs.declared.value.Value.TheVariants.{Int}
use Rattle.asm_domain.specs.Narrow.{IsNarrow}
use Rattle.asm_sign.specs.declared.function.Function.{Function}
use Rattle.asm_node.specs.declared.term.Binder.{Binder}
use Rattle.asm_node.specs.Tree.{Tree, Const, Var, Within, Get, Oper, Cond, Let, Quant, Trees, none, more}
use Rattle.asm_node.specs.Values.{result_of, are_arguments}
use Rattle.asm_node.specs.Machine.{Definition, definition_of, tuples_of}
use Rattle.asm_node.specs.Term.{World, Calls, Reads, Gives, unbound, with_value, with_tuple, parameters_have, value_of, values_of, calls_within, calls_of}

-- a number is at most 2^62 in absolute value
abbrev pub IsSmall : Value → Type 0
IsSmall (Int z) = IsNarrow z
IsSmall _ = ⊤

-- what is to hold for each variable
abbrev pub Each : Type 1
Each = ℕ → Type 0

-- for all variables but one
abbrev pub but : ℕ → Each → Each
but x each = λ y. MatchBool (nat_eq x y) ⊤ (each y)

abbrev pub nothing : Each
nothing = λ y. ⊤

abbrev pub but_all : List Binder → Each → Each
but_all [] each = each
but_all (b ∷ bs) each = but b.variable (but_all bs each)

-- what is to hold of each defined function at arguments
abbrev pub OfCalls : Type 1
OfCalls = ℕ → List Value → Type 0

-- of a function at arguments of its domains
abbrev pub IsOfCall : World → OfCalls → ℕ → Option Function → List Value → Type 0
IsOfCall w of_calls f (Some function) vs = are_arguments w.machine.signature.domains function.domains vs ≡ true → of_calls f vs
IsOfCall w of_calls f None vs = ⊤

module _ (w : World) (calls : Calls) (of_calls : OfCalls) where
  abbrev mutual
    -- what each operator gives is small, in the term and in what it calls; of its variables what is to hold of them
    pub IsExactIn : Reads → Each → Tree → Type 0
    IsExactIn reads each (Const v) = ⊤
    IsExactIn reads each (Var x) = each x
    IsExactIn reads each (Within d t) = IsExactIn reads each t
    IsExactIn reads each (Get f ts) =
        AreExactIn reads each ts × ((vs : List Value) → values_of w calls reads ts ≡ Gives vs → IsOfCall w of_calls f (slice_get w.machine.signature.functions f) vs)
    IsExactIn reads each (Oper o ts) = AreExactIn reads each ts × ((vs : List Value) → values_of w calls reads ts ≡ Gives vs → IsSmall (result_of o vs))
    IsExactIn reads each (Cond g t u) = IsExactIn reads each g × IsExactIn reads each t × IsExactIn reads each u
    IsExactIn reads each (Let x t u) =
        IsExactIn reads each t × ((v : Value) → value_of w calls reads t ≡ Gives v → IsExactIn (with_value x v reads) (but x each) u)
    IsExactIn reads each (Quant q bs g) =
        (vs : List Value) → Contains (tuples_of w.machine.signature bs) vs → IsExactIn (with_tuple bs vs reads) (but_all bs each) g

    pub AreExactIn : Reads → Each → Trees → Type 0
    AreExactIn reads each none = ⊤
    AreExactIn reads each (more t ts) = IsExactIn reads each t × AreExactIn reads each ts

-- the body of a function
abbrev pub IsExactBody : World → Calls → OfCalls → Option Definition → List Value → Type 0
IsExactBody w calls of_calls (Some d) vs = IsExactIn w calls of_calls (parameters_have d.parameters vs) nothing d.body
IsExactBody w calls of_calls None vs = ⊤

-- what the defined functions give where at most n definitions stand inside one another
abbrev pub exact_within : World → ℕ → OfCalls
exact_within w zero f vs = ⊤
exact_within w (suc n) f vs = IsExactBody w (calls_within w n) (exact_within w n) (definition_of w.machine.definitions f) vs

-- every number that the evaluation of a closed term meets is small
abbrev pub IsExact : World → Tree → Type 0
IsExact w t = IsExactIn w (calls_of w) (exact_within w 32) unbound nothing t

abbrev pub AreExact : World → Trees → Type 0
AreExact w ts = AreExactIn w (calls_of w) (exact_within w 32) unbound nothing ts
