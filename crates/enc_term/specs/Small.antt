-- Where what operators give over all combinations of values stays far within 64 bits.
use Rattle.std.specs.Prelude.{◌≡◌, ℕ, zero, suc, true, ⊤, List, Option, Some, None, slice_get}
use Rattle.asm_domain.specs.declared.value.Value.{Value}
use Rattle.asm_sign.specs.declared.function.Function.{Function}
use Rattle.asm_node.specs.Tree.{Tree, Const, Var, Within, Get, Oper, Cond, Let, Quant, Trees, none, more}
use Rattle.asm_node.specs.Values.{result_of, are_arguments}
use Rattle.asm_node.specs.Machine.{Machine, Definition, definition_of, tuples_of}
use Rattle.asm_node.specs.Term.{Places}
use Rattle.asm_node.specs.Exact.{IsSmall, Each, but, but_all, nothing, OfCalls}
use Rattle.enc_term.specs.Can.{CallCans, Cans, Has, ArePicked, only_undef, with_can, with_cans, parameters_can, can_by, cans_by, calls_can, cans_in}

-- of a function at arguments of its domains
abbrev pub IsOfCall : Machine → OfCalls → ℕ → Option Function → List Value → Type 0
IsOfCall m of_calls f (Some function) vs = are_arguments m.signature.domains function.domains vs ≡ true → of_calls f vs
IsOfCall m of_calls f None vs = ⊤

module _ (m : Machine) (calls : CallCans) (of_calls : OfCalls) where
  abbrev mutual
    -- what each operator gives is small over all combinations, in the term and in what it calls; of its variables what
    -- is to hold of them
    pub StaysSmall : Cans → Each → Tree → Type 0
    StaysSmall cans each (Const v) = ⊤
    StaysSmall cans each (Var x) = each x
    StaysSmall cans each (Within d t) = StaysSmall cans each t
    StaysSmall cans each (Get f ts) =
        StayAllSmall cans each ts × ((vs : List Value) → ArePicked (cans_by m calls cans ts) vs → IsOfCall m of_calls f (slice_get m.signature.functions f) vs)
    StaysSmall cans each (Oper o ts) = StayAllSmall cans each ts × ((vs : List Value) → ArePicked (cans_by m calls cans ts) vs → IsSmall (result_of o vs))
    StaysSmall cans each (Cond g t u) = StaysSmall cans each g × StaysSmall cans each t × StaysSmall cans each u
    StaysSmall cans each (Let x t u) = StaysSmall cans each t × ((v : Value) → Has (can_by m calls cans t) v → StaysSmall (with_can x v cans) (but x each) u)
    StaysSmall cans each (Quant q bs g) = (vs : List Value) → Has (tuples_of m.signature bs) vs → StaysSmall (with_cans bs vs cans) (but_all bs each) g

    pub StayAllSmall : Cans → Each → Trees → Type 0
    StayAllSmall cans each none = ⊤
    StayAllSmall cans each (more t ts) = StaysSmall cans each t × StayAllSmall cans each ts

-- the body of a function
abbrev pub IsSmallBody : Machine → CallCans → OfCalls → Option Definition → List Value → Type 0
IsSmallBody m calls of_calls (Some d) vs = StaysSmall m calls of_calls (parameters_can d.parameters vs) nothing d.body
IsSmallBody m calls of_calls None vs = ⊤

-- what the defined functions give where at most n definitions stand inside one another
abbrev pub small_within : Machine → ℕ → OfCalls
small_within m zero f vs = ⊤
small_within m (suc n) f vs = IsSmallBody m (calls_can m n) (small_within m n) (definition_of m.definitions f) vs

-- the closed terms of the variables
abbrev pub each_in : Machine → ℕ → Places → Each
each_in m n e = λ x. StaysSmall m (calls_can m n) (small_within m n) only_undef nothing (e x)

-- a term whose variables stand for closed terms
abbrev pub StaysSmallIn : Machine → ℕ → Places → Tree → Type 0
StaysSmallIn m n e t = StaysSmall m (calls_can m n) (small_within m n) (cans_in m n e) (each_in m n e) t

abbrev pub StayAllSmallIn : Machine → ℕ → Places → Trees → Type 0
StayAllSmallIn m n e ts = StayAllSmall m (calls_can m n) (small_within m n) (cans_in m n e) (each_in m n e) ts
