-- What groups of values say under an assignment.
use Rattle.std.specs.Prelude.{◌≡◌, ℕ, Bool, true, false, not, ◌&&◌, List, [], ◌∷◌, map, filter}
use Rattle.std.specs.List.{list_any}
use Rattle.cnf_base.specs.declared.lit.Lit.{Lit}
use Rattle.cnf_base.specs.Clauses.{lit_true, formula_true, clause_variables}
use Rattle.cnf_gate.specs.Built.{Built}
use Rattle.asm_domain.specs.declared.value.Value.{Value}
use Rattle.asm_node.specs.Values.{same}
use Rattle.asm_node.specs.Term.{Outcome, Gives, Needs}
use Rattle.enc_group.specs.declared.group.Entry.{Entry}

-- an assignment of the group and gate clauses
abbrev pub Holds : (ℕ → Bool) → Built → Type 0
Holds v b = formula_true v b.fixed ≡ true

-- whether a list of entries has a true literal of this value
abbrev pub holds : (ℕ → Bool) → List Entry → Value → Bool
holds v es x = list_any (λ e. same e.value x && lit_true v e.lit) es

-- whether an evaluation gives this value
abbrev pub is_gives : Value → Outcome Value → Bool
is_gives y (Gives x) = same x y
is_gives y (Needs l) = false

-- the group means the value: a literal of a value is true exactly where the evaluation gives that value; where the
-- evaluation needs a location that the input lacks, no literal is true
pub record Means (v : ℕ → Bool) (es : List Entry) (o : Outcome Value) : Type 0 where
  pub at : (y : Value) → holds v es y ≡ is_gives y o

-- the least number above each variable
abbrev pub group_variables : List Entry → ℕ
group_variables es = clause_variables (map (λ e. e.lit) es)

-- the values of the entries, in their order
abbrev pub values_in : List Entry → List Value
values_in es = map (λ e. e.value) es

-- the literals of one value
abbrev pub lits_with : List Entry → Value → List Lit
lits_with es x = map (λ e. e.lit) (filter (λ e. same e.value x) es)

-- whether a list has this value
abbrev pub has : List Value → Value → Bool
has xs y = list_any (λ x. same x y) xs

-- each value of a list once, where it stands first
abbrev pub once : List Value → List Value
once [] = []
once (x ∷ xs) = x ∷ filter (λ y. not (same x y)) (once xs)

-- no value stands twice
abbrev pub are_distinct : List Value → Bool
are_distinct [] = true
are_distinct (x ∷ xs) = not (has xs x) && are_distinct xs
