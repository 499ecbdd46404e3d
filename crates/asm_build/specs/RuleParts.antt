-- Rules of several parts, from the trees of the parts.
use Rattle.std.specs.Prelude.{ℕ, List, [], ◌∷◌}
use Rattle.asm_source.specs.declared.sources.Place.{Place}
use Rattle.asm_node.specs.Tree.{Tree}
use Rattle.asm_node.specs.RuleTree.{Rule, Skip, Seq, If, Let}
use Rattle.asm_build.specs.Forms.{test}

-- nested conditionals, the first case outermost
abbrev pub rule_cases_from : Place → Tree → List Tree → List Rule → Rule → Rule
rule_cases_from place subject (label ∷ labels) (p ∷ ps) other = If place (test subject label) p (rule_cases_from place subject labels ps other)
rule_cases_from place subject _ _ other = other

-- nested rules that each bind one variable, the first outermost
abbrev pub rule_bounds_from : Place → List ℕ → List Tree → Rule → Rule
rule_bounds_from place (x ∷ xs) (t ∷ ts) body = Let place x t (rule_bounds_from place xs ts body)
rule_bounds_from place _ _ body = body

-- sequences to the left
abbrev pub sequence_on : Place → Rule → List Rule → Rule
sequence_on place p [] = p
sequence_on place p (q ∷ qs) = sequence_on place (Seq place p q) qs

abbrev pub sequence_from : Place → List Rule → Rule
sequence_from place [] = Skip place
sequence_from place (p ∷ ps) = sequence_on place p ps
