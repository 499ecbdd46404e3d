-- Which values a term may have, by its shape.
use Rattle.std.specs.Prelude.{ℕ, zero, suc, Bool as Truth, true, false, not, ◌||◌, nat_eq, if◌then◌else◌, List, [], ◌∷◌, ◌++◌, map, length, Option, Some, None, slice_get, ◌≡◌, ◌⊎◌, is_none}
use Rattle.std.specs.List.{list_any, flat_map}
use Rattle.asm_domain.specs.declared.value.Value.{Value}
use Rattle.asm_domain.specs.declared.value.Value.TheVariants.{Undef, Bool}
use Rattle.asm_sign.specs.declared.function.DeclaredDomain.{DeclaredDomain}
use Rattle.asm_sign.specs.declared.function.Function.{Function}
use Rattle.asm_sign.specs.Kind.{is_dynamic, is_kept}
use Rattle.asm_sign.specs.Arguments.{elements_at}
use Rattle.asm_sign.specs.Tuples.{tuples}
use Rattle.asm_sign.specs.Vocabulary.{Vocabulary}
use Rattle.asm_node.specs.declared.term.Binder.{Binder}
use Rattle.asm_node.specs.Tree.{Tree, Const, Var, Within, Get, Oper, Cond, Let, Quant, Trees, none, more}
use Rattle.asm_node.specs.Values.{result_of, within, are_arguments, is_truth}
use Rattle.asm_node.specs.Machine.{Machine, Definition, definition_of, constant_of, slot_at, tuples_of}
use Rattle.asm_node.specs.Term.{Places, branch}
use Rattle.enc_group.specs.Group.{once}

-- which values each variable may have
abbrev pub Cans : Type 0
Cans = ℕ → List Value

-- which values each defined function may have at arguments
abbrev pub CallCans : Type 0
CallCans = ℕ → List Value → List Value

-- no variable is bound
abbrev pub only_undef : Cans
only_undef = λ y. Undef ∷ []

-- the variable has the value
abbrev pub with_can : ℕ → Value → Cans → Cans
with_can x v cans = λ y. if nat_eq x y then v ∷ [] else cans y

-- the variables have the values at their places
abbrev pub with_cans : List Binder → List Value → Cans → Cans
with_cans (b ∷ bs) (v ∷ vs) cans = with_can b.variable v (with_cans bs vs cans)
with_cans _ _ cans = cans

-- the parameters have the values at their places, and no other variable is bound
abbrev pub parameters_can : List ℕ → List Value → Cans
parameters_can (x ∷ xs) (v ∷ vs) = with_can x v (parameters_can xs vs)
parameters_can _ _ = only_undef

abbrev pub undef_if : Truth → List Value
undef_if true = Undef ∷ []
undef_if false = []

-- the values are no arguments of the dynamic function: one is outside its domain, or there is no such location
abbrev pub is_bad : Vocabulary → ℕ → Function → List Value → Truth
is_bad signature f function vs = not (are_arguments signature.domains function.domains vs) || is_none (slot_at signature f vs)

-- what a static or derived function may give at arguments: `undef` where one of them is bad
abbrev pub called_can : List DeclaredDomain → CallCans → ℕ → Function → List Value → List Value
called_can domains calls f function vs = if are_arguments domains function.domains vs then calls f vs else Undef ∷ []

-- a dynamic function may have all elements of its codomain; `undef` as well where it is kept, and else where an argument
-- can be bad
abbrev pub dynamic_can : Vocabulary → ℕ → Function → List (List Value) → List Value
dynamic_can signature f function vss = elements_at signature.domains function.codomain ++ undef_if (is_kept function.kind || list_any (is_bad signature f function) vss)

abbrev pub read_can : Machine → CallCans → ℕ → Option Function → List (List Value) → List Value
read_can m calls f (Some function) vss =
    if is_dynamic function.kind
    then dynamic_can m.signature f function vss
    else flat_map (called_can m.signature.domains calls f function) vss
read_can m calls f None vss = Undef ∷ []

-- `undef` as well where a guard may be no truth value
abbrev pub quantified_can : List (List Value) → List Value
quantified_can guards = Bool true ∷ Bool false ∷ undef_if (list_any (list_any (λ v. not (is_truth v))) guards)

abbrev mutual
  -- a constant may have its value; a variable what its closed term may have
  -- `Within` may have the term's values that are in the domain, and `undef` where another is possible
  -- a static or derived read may have what its function may give at the argument values that can come
  -- an operator may have its results over all combinations
  -- a conditional may have what the branches may have that the guard can take
  -- a `let` may have what its body may have over the values of the bound term
  -- a quantifier may be true or false
  -- one value may stand in such a list more than once
  pub can_by : Machine → CallCans → Cans → Tree → List Value
  can_by m calls cans (Const v) = v ∷ []
  can_by m calls cans (Var x) = cans x
  can_by m calls cans (Within d t) = map (within m.signature.domains d) (can_by m calls cans t)
  can_by m calls cans (Get f ts) = read_can m calls f (slice_get m.signature.functions f) (tuples (cans_by m calls cans ts))
  can_by m calls cans (Oper o ts) = map (result_of o) (tuples (cans_by m calls cans ts))
  can_by m calls cans (Cond g t u) = flat_map (λ v. branch v (can_by m calls cans t) (can_by m calls cans u) (Undef ∷ [])) (can_by m calls cans g)
  can_by m calls cans (Let x t u) = flat_map (λ v. can_by m calls (with_can x v cans) u) (can_by m calls cans t)
  can_by m calls cans (Quant q bs g) = quantified_can (map (λ vs. can_by m calls (with_cans bs vs cans) g) (tuples_of m.signature bs))

  pub cans_by : Machine → CallCans → Cans → Trees → List (List Value)
  cans_by m calls cans none = []
  cans_by m calls cans (more t ts) = can_by m calls cans t ∷ cans_by m calls cans ts

-- what a definition may give at arguments: values outside the codomain read as `undef`
abbrev pub defined_can : Machine → CallCans → Function → Option Definition → List Value → List Value
defined_can m calls function (Some d) vs = map (within m.signature.domains function.codomain) (can_by m calls (parameters_can d.parameters vs) d.body)
defined_can m calls function None vs = constant_of m.signature.domains function ∷ []

abbrev pub function_can : Machine → CallCans → ℕ → Option Function → List Value → List Value
function_can m calls f (Some function) vs = defined_can m calls function (definition_of m.definitions f) vs
function_can m calls f None vs = Undef ∷ []

-- where no further definition may be entered
abbrev pub last_can : Machine → Function → Option Definition → List Value
last_can m function (Some d) = Undef ∷ []
last_can m function None = constant_of m.signature.domains function ∷ []

abbrev pub can_at_last : Machine → ℕ → Option Function → List Value
can_at_last m f (Some function) = last_can m function (definition_of m.definitions f)
can_at_last m f None = Undef ∷ []

-- what the defined functions may give where at most n definitions stand inside one another
abbrev pub calls_can : Machine → ℕ → CallCans
calls_can m zero f vs = can_at_last m f (slice_get m.signature.functions f)
calls_can m (suc n) f vs = function_can m (calls_can m n) f (slice_get m.signature.functions f) vs

-- each variable may have what the closed term in its place may have
abbrev pub cans_in : Machine → ℕ → Places → Cans
cans_in m n e = λ x. can_by m (calls_can m n) only_undef (e x)

-- what a term may have whose variables stand for closed terms
abbrev pub can_in : Machine → ℕ → Places → Tree → List Value
can_in m n e t = can_by m (calls_can m n) (cans_in m n e) t

abbrev pub all_can_in : Machine → ℕ → Places → Trees → List (List Value)
all_can_in m n e ts = cans_by m (calls_can m n) (cans_in m n e) ts

-- the values that an instance of a term is allowed by its shape: in a model no chain of definitions is longer than 32
abbrev pub can : Machine → Places → Tree → List Value
can m e t = once (can_in m 32 e t)

-- how many these are
abbrev pub width : Machine → Places → Tree → ℕ
width m e t = length (can m e t)

-- the list has this item
abbrev pub Has : {A : Type 0} → List A → A → Type 0
Has [] y = ⊥
Has {A} (x ∷ xs) y = (◌≡◌ {A = A} x y) ⊎ Has xs y

-- each value of a list is one of the other
abbrev pub AreAmong : List Value → List Value → Type 0
AreAmong xs ys = (x : Value) → Has xs x → Has ys x

-- one value of each list, in their order
abbrev pub ArePicked : List (List Value) → List Value → Type 0
ArePicked [] [] = Unit {0}
ArePicked (xs ∷ xss) (v ∷ vs) = Has xs v × ArePicked xss vs
ArePicked _ _ = ⊥
