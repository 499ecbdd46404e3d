-- The clauses that a line may name, and the number of choices.
use Rattle.std.specs.Prelude.{ℕ, ◌*◌, List, [], ◌∷◌, length}
use Rattle.cnf_base.specs.declared.lit.Lit.{Lit}
use Rattle.cnf_check.specs.Checked.{Checked, clauses_after}

-- the clauses of the formula and of the lines so far
abbrev pub known : Checked → List (List Lit)
known c = clauses_after c.formula c.lines

-- how many ways there are to choose one literal of each group
abbrev pub choices : List (List Lit) → ℕ
choices [] = 1
choices (g ∷ gs) = length g * choices gs
