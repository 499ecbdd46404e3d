-- Literals, clauses and formulas, and what an assignment makes of them.
use Rattle.std.specs.Prelude.{◌≡◌, ℕ, ◌+◌, Bool, true, false, ◌&&◌, not, nat_eq, max, List, [], ◌∷◌, length, slice_index_or}
use Rattle.std.specs.Bool.{beq}
use Rattle.std.specs.List.{list_any, list_all}
use Rattle.cnf_base.specs.declared.lit.Lit.{Lit}

-- whether two literals are the same
abbrev pub is_same : Lit → Lit → Bool
is_same l m = nat_eq l.var m.var && beq l.positive m.positive

-- whether each of two literals is the negation of the other
abbrev pub is_negation : Lit → Lit → Bool
is_negation l m = nat_eq l.var m.var && not (beq l.positive m.positive)

-- the literal that is true exactly where this one is false
abbrev pub negate : Lit → Lit
negate l = record { var = l.var; positive = not l.positive; in_range = l.in_range }

-- whether a literal is true where the variables have these values
abbrev pub lit_true : (ℕ → Bool) → Lit → Bool
lit_true v l = beq (v l.var) l.positive

abbrev pub clause_true : (ℕ → Bool) → List Lit → Bool
clause_true v c = list_any (lit_true v) c

abbrev pub formula_true : (ℕ → Bool) → List (List Lit) → Bool
formula_true v f = list_all (clause_true v) f

-- the least number above each variable of a clause
abbrev pub clause_variables : List Lit → ℕ
clause_variables [] = 0
clause_variables (l ∷ c) = max (l.var + 1) (clause_variables c)

-- the least number above each variable of a formula
abbrev pub variables : List (List Lit) → ℕ
variables [] = 0
variables (c ∷ f) = max (clause_variables c) (variables f)

-- the value that a list of truth values gives a variable
abbrev pub value_in : List Bool → ℕ → Bool
value_in a n = slice_index_or a n false

-- an assignment satisfies a formula: it has one value for each variable, and each clause a true literal
pub record IsSatisfied (f : List (List Lit)) (a : List Bool) : Type 0 where
  pub whole : length a ≡ variables f
  pub clauses : formula_true (value_in a) f ≡ true

-- whether a clause has this literal
abbrev pub has : List Lit → Lit → Bool
has c l = list_any (is_same l) c

-- whether each literal of the first clause is in the second
abbrev pub is_within : List Lit → List Lit → Bool
is_within c d = list_all (has d) c

-- whether two clauses have the same literals
abbrev pub same_literals : List Lit → List Lit → Bool
same_literals c d = is_within c d && is_within d c
