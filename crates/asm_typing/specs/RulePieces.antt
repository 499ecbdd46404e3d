-- Parts of what is wrong with rules.
use Rattle.std.specs.Prelude.{ℕ, List, [], ◌∷◌, ◌++◌, Option, Some}
use Rattle.asm_sign.specs.Vocabulary.{Vocabulary}
use Rattle.asm_node.specs.declared.term_type.TermType.{TermType}
use Rattle.asm_node.specs.declared.term_type.TermType.TheVariants.{Boolean}
use Rattle.asm_tree.specs.declared.term.RawBinder.{RawBinder}
use Rattle.asm_tree.specs.declared.term.RawTerm.{RawTerm}
use Rattle.asm_tree.specs.declared.rule.RawRuleCase.{RawRuleCase}
use Rattle.asm_faults.specs.declared.fault.Fault.{Fault}
use Rattle.asm_faults.specs.Terms.{Scope, judged, or_else, asked, binder_faults, infinite_faults, within}
use Rattle.asm_faults.specs.Bodies.{RuleHead, rule_faults}

-- the cases of a `switch`: the labels are of one type
abbrev pub cases_faults : Vocabulary → List RuleHead → ℕ → Option TermType → Scope → List RawRuleCase → List Fault
cases_faults v heads n label s [] = []
cases_faults v heads n label s (c ∷ cs) = asked v n label s (judged v n c.label) ++ (rule_faults v heads n c.rule s ++ cases_faults v heads n (or_else label ((judged v n c.label).type s)) s cs)

-- variables, their guard, and what is done for each tuple
abbrev pub ranging_faults : Vocabulary → ℕ → List RawBinder → RawTerm → (Scope → List Fault) → Scope → List Fault
ranging_faults v n bs g p s = binder_faults v n bs ++ (infinite_faults v n bs ++ (asked v n (Some Boolean) (within v n bs s) (judged v n g) ++ p (within v n bs s)))
