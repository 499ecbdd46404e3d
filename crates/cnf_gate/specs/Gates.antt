-- The clauses of a gate.
use Rattle.std.specs.Prelude.{ℕ, ◌+◌, Bool, List, [], ◌∷◌, length, map, if◌then◌else◌}
use Rattle.cnf_base.specs.declared.lit.Lit.{Lit}
use Rattle.cnf_base.specs.Clauses.{negate}

-- the literals, or their negations
abbrev pub flip_all : Bool → List Lit → List Lit
flip_all flip lits = map (λ l. if flip then negate l else l) lits

-- where `o` is true each of the literals is
abbrev pub pair_clauses : Lit → List Lit → List (List Lit)
pair_clauses o [] = []
pair_clauses o (l ∷ ls) = (negate o ∷ l ∷ []) ∷ pair_clauses o ls

-- `o` is true exactly where each of the literals is
abbrev pub gate_clauses : Lit → List Lit → List (List Lit)
gate_clauses o ls = (o ∷ map negate ls) ∷ pair_clauses o ls

-- how many literals the clauses of a formula have
abbrev pub literals : List (List Lit) → ℕ
literals [] = 0
literals (c ∷ f) = length c + literals f
