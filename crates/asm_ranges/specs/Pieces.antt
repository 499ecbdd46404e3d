-- Lists of measured terms and rules.
use Rattle.std.specs.Prelude.{ℕ, List, ◌++◌, map}
use Rattle.std.specs.List.{flat_map}
use Rattle.asm_sign.specs.Vocabulary.{Vocabulary}
use Rattle.asm_tree.specs.declared.term.RawCase.{RawCase}
use Rattle.asm_tree.specs.declared.term.RawTerm.{RawTerm}
use Rattle.asm_tree.specs.declared.rule.RawRule.{RawRule}
use Rattle.asm_tree.specs.declared.rule.RawRuleCase.{RawRuleCase}
use Rattle.asm_faults.specs.declared.fault.Fault.{Fault}
use Rattle.asm_faults.specs.Ranges.{Scope, Measured, measured, term_faults, rule_faults}

-- what is refused in a scope
abbrev pub Faults : Type 0
Faults = Scope → List Fault

abbrev pub terms_measured : Vocabulary → ℕ → List RawTerm → List Measured
terms_measured v n ts = map (measured v n) ts

abbrev pub cases_measured : Vocabulary → ℕ → List RawCase → List (Measured × Measured)
cases_measured v n cs = map (λ (c : RawCase). (measured v n c.label, measured v n c.value)) cs

abbrev pub rules_measured : Vocabulary → ℕ → List RawRule → List Faults
rules_measured v n rs = map (rule_faults v n) rs

-- the cases of a `switch` rule: the labels, and what is refused in the rules
abbrev pub rule_cases_measured : Vocabulary → ℕ → List RawRuleCase → List (RawTerm × Faults)
rule_cases_measured v n cs = map (λ (c : RawRuleCase). (c.label, rule_faults v n c.rule)) cs

-- what is refused in rules, one after the other
abbrev pub all_refused : List Faults → Scope → List Fault
all_refused ps s = flat_map (λ (p : Faults). p s) ps

abbrev pub cases_refused : Vocabulary → ℕ → List (RawTerm × Faults) → Scope → List Fault
cases_refused v n cs s = flat_map (λ (c : RawTerm × Faults). term_faults v n c.0 s ++ c.1 s) cs
