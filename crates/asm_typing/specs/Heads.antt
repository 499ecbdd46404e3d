-- The heads of rules, by their names and their types.
use Rattle.std.specs.Prelude.{List, [], ◌∷◌, Option}
use Rattle.asm_node.specs.declared.term_type.TermType.{TermType}
use Rattle.asm_faults.specs.At.{Name}
use Rattle.asm_faults.specs.Bodies.{RuleHead}

-- names with the types at their places
abbrev pub heads_from : List Name → List (List (Option TermType)) → List RuleHead
heads_from (name ∷ names) (types ∷ lists) = record { name = name; types = types } ∷ heads_from names lists
heads_from _ _ = []
