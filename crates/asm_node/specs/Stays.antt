-- Variables that are bound inside a term.
use Rattle.std.specs.Prelude.{ℕ, List, nat_eq, if◌then◌else◌}
use Rattle.std.specs.List.{list_any}
use Rattle.asm_node.specs.Tree.{Var}
use Rattle.asm_node.specs.Term.{Places}

-- bound variables stand for themselves
abbrev pub stays : List ℕ → Places → Places
stays bound e = λ y. if list_any (λ x. nat_eq x y) bound then Var y else e y
