-- What is refused in rules, rule by rule.
use Rattle.std.proofs.Common.{◌≡◌, ℕ, suc, ◌+◌, ◌<◌, List, length, drop, get_or, Option, ap, sym, ◌∙◌, drop-cons, add-one}
use Rattle.asm_sign.specs.Vocabulary.{Vocabulary}
use Rattle.asm_tree.specs.declared.rule.RawRule.{RawRule}
use Rattle.asm_tree.specs.declared.rule.RawRuleCase.{RawRuleCase}
use Rattle.asm_faults.specs.declared.fault.Fault.{Fault}
use Rattle.asm_faults.specs.First.{noted}
use Rattle.asm_faults.specs.Ranges.{Scope, term_faults, rule_faults}
use Rattle.asm_faults.proofs.Noting.{noted_append}
use Rattle.asm_ranges.specs.Pieces.{rules_measured, rule_cases_measured, all_refused, cases_refused}
use Rattle.asm_ranges.proofs.Steps.{noted_pair}

module _ (v : Vocabulary) (n : ℕ) (s : Scope) where
  rules_step : (ps : List RawRule) (i : ℕ) (d : RawRule) (first : Option Fault) → i < length ps
      → noted first (all_refused (rules_measured v n (drop i ps)) s) ≡ noted (noted first (rule_faults v n (get_or ps i d) s)) (all_refused (rules_measured v n (drop (i + 1) ps)) s)
  rules_step ps i d first h = rw (add-one, drop-cons ps i d) (noted_append first (rule_faults v n (get_or ps i d) s) (all_refused (rules_measured v n (drop (suc i) ps)) s))

  pub rules_next : (ps : List RawRule) (i : ℕ) (x : RawRule) (first : Option Fault) → i < length ps → x ≡ get_or ps i x
      → noted (noted first (rule_faults v n x s)) (all_refused (rules_measured v n (drop (i + 1) ps)) s) ≡ noted first (all_refused (rules_measured v n (drop i ps)) s)
  rules_next ps i x first h is =
      ap (λ (y : RawRule). noted (noted first (rule_faults v n y s)) (all_refused (rules_measured v n (drop (i + 1) ps)) s)) is ∙ sym (rules_step ps i x first h)

  cases_step : (cs : List RawRuleCase) (i : ℕ) (d : RawRuleCase) (first : Option Fault) → i < length cs
      → noted first (cases_refused v n (rule_cases_measured v n (drop i cs)) s)
      ≡ noted (noted (noted first (term_faults v n (get_or cs i d).label s)) (rule_faults v n (get_or cs i d).rule s)) (cases_refused v n (rule_cases_measured v n (drop (i + 1) cs)) s)
  cases_step cs i d first h =
      rw (add-one, drop-cons cs i d)
      (noted_pair first (term_faults v n (get_or cs i d).label s) (rule_faults v n (get_or cs i d).rule s) (cases_refused v n (rule_cases_measured v n (drop (suc i) cs)) s))

  pub rule_cases_next : (cs : List RawRuleCase) (i : ℕ) (x : RawRuleCase) (first : Option Fault) → i < length cs → x ≡ get_or cs i x
      → noted (noted (noted first (term_faults v n x.label s)) (rule_faults v n x.rule s)) (cases_refused v n (rule_cases_measured v n (drop (i + 1) cs)) s) ≡ noted first (cases_refused v n (rule_cases_measured v n (drop i cs)) s)
  rule_cases_next cs i x first h is =
      ap (λ (y : RawRuleCase). noted (noted (noted first (term_faults v n y.label s)) (rule_faults v n y.rule s)) (cases_refused v n (rule_cases_measured v n (drop (i + 1) cs)) s)) is ∙ sym (cases_step cs i x first h)
