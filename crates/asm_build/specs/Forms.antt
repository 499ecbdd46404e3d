-- Terms of several parts, from the trees of the parts.
use Rattle.std.specs.Prelude.{ℕ, List, ◌∷◌}
use Rattle.asm_node.specs.declared.operator.Op.TheVariants.{Equal}
use Rattle.asm_node.specs.Tree.{Tree, Cond, Oper, Let, more, none}

-- the subject is the label
abbrev pub test : Tree → Tree → Tree
test subject label = Oper Equal (more subject (more label none))

-- nested conditionals, the first case outermost
abbrev pub cases_from : Tree → List Tree → List Tree → Tree → Tree
cases_from subject (label ∷ labels) (value ∷ values) other = Cond (test subject label) value (cases_from subject labels values other)
cases_from subject _ _ other = other

-- nested terms that each bind one variable, the first outermost
abbrev pub bounds_from : List ℕ → List Tree → Tree → Tree
bounds_from (x ∷ xs) (t ∷ ts) body = Let x t (bounds_from xs ts body)
bounds_from _ _ body = body
