-- What tuples of values say under an assignment.
use Rattle.std.specs.Prelude.{◌≡◌, ℕ, Bool, false, ◌&&◌, List, [], ◌∷◌, ◌++◌, map}
use Rattle.std.specs.List.{list_any}
use Rattle.cnf_base.specs.Clauses.{lit_true, clause_variables}
use Rattle.asm_domain.specs.declared.value.Value.{Value}
use Rattle.asm_node.specs.Values.{same_all}
use Rattle.asm_node.specs.Term.{Outcome, Gives, Needs}
use Rattle.enc_group.specs.declared.tuple.Tuple.{Tuple}

-- whether a list has a true literal of these values
abbrev pub holds_all : (ℕ → Bool) → List Tuple → List Value → Bool
holds_all v ts ys = list_any (λ t. same_all t.values ys && lit_true v t.lit) ts

-- whether evaluations give these values
abbrev pub are_given : List Value → Outcome (List Value) → Bool
are_given ys (Gives xs) = same_all xs ys
are_given ys (Needs l) = false

-- the tuples mean the values: a literal is true exactly where the evaluations give the values of its tuple
pub record MeansAll (v : ℕ → Bool) (ts : List Tuple) (o : Outcome (List Value)) : Type 0 where
  pub at : (ys : List Value) → holds_all v ts ys ≡ are_given ys o

-- the least number above each variable
abbrev pub tuple_variables : List Tuple → ℕ
tuple_variables ts = clause_variables (map (λ t. t.lit) ts)

-- the values of the tuples, in their order
abbrev pub tuples_in : List Tuple → List (List Value)
tuples_in ts = map (λ t. t.values) ts

-- each list of values with each value behind it
abbrev pub products : List (List Value) → List Value → List (List Value)
products [] xs = []
products (vs ∷ vss) xs = map (λ x. vs ++ x ∷ []) xs ++ products vss xs
