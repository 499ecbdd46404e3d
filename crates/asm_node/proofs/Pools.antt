-- Children of a pool's nodes stand before them.
use Rattle.std.proofs.Common.{◌<◌, List, length}
use Rattle.std.proofs.lemmas.Option.{slice_get_within}
use Rattle.asm_node.specs.declared.term.Term.{Term}
use Rattle.asm_node.specs.declared.term.TermKind.{TermKind, Row_of-TermKind-Get-1-1, end_of-TermKind-Get-1-1, more_of-TermKind-Get-1-1}
use Rattle.asm_node.specs.declared.term.TermKind as kind
use Rattle.asm_node.specs.declared.rule.Rule as of_rule
use Rattle.asm_node.specs.declared.rule.RuleKind.{RuleKind, Row_of-RuleKind-Par-1-1, end_of-RuleKind-Par-1-1, more_of-RuleKind-Par-1-1}
use Rattle.asm_node.specs.declared.rule.RuleKind as form
use Rattle.asm_node.specs.Pool.{HasTerm, HasRow, HasTerms, RowIsBefore, TermsAreBefore, HasRule, HasRules, HasParts, RulesAreBefore, PartsAreBefore}

term_before : (terms : List Term) (t : Term) → HasTerm terms t → t.id < length terms
term_before terms t is = slice_get_within terms t.id t is

row_before : (terms : List Term) {n : _} (ts : Row_of-TermKind-Get-1-1 n) → HasRow terms ts → RowIsBefore (length terms) ts
row_before terms end_of-TermKind-Get-1-1 has = tt
row_before terms (more_of-TermKind-Get-1-1 _ id t ts) has = (term_before terms _ has.0, row_before terms ts has.1)

pub terms_before : (terms : List Term) (k : TermKind) → HasTerms terms k → TermsAreBefore (length terms) k
terms_before terms (kind.Const v) has = tt
terms_before terms (kind.Var x) has = tt
terms_before terms (kind.Within' d _ id t) has = term_before terms _ has
terms_before terms (kind.Get' f _ ts) has = row_before terms ts has
terms_before terms (kind.Oper' o _ ts) has = row_before terms ts has
terms_before terms (kind.Cond' _ i g _ j t _ k u) has = (term_before terms _ has.0, term_before terms _ has.1, term_before terms _ has.2)
terms_before terms (kind.Let' x _ i t _ j u) has = (term_before terms _ has.0, term_before terms _ has.1)
terms_before terms (kind.Quant' q bs _ id g) has = term_before terms _ has

rule_before : (rules : List of_rule.Rule) (r : of_rule.Rule) → HasRule rules r → r.id < length rules
rule_before rules r is = slice_get_within rules r.id r is

rules_before : (rules : List of_rule.Rule) {n : _} (ps : Row_of-RuleKind-Par-1-1 n) → HasRules rules ps → RulesAreBefore (length rules) ps
rules_before rules end_of-RuleKind-Par-1-1 has = tt
rules_before rules (more_of-RuleKind-Par-1-1 _ id p ps) has = (rule_before rules _ has.0, rules_before rules ps has.1)

pub parts_before : (terms : List Term) (rules : List of_rule.Rule) (k : RuleKind) → HasParts terms rules k → PartsAreBefore (length rules) k
parts_before terms rules (form.Skip at) has = tt
parts_before terms rules (form.Update at f ts t) has = tt
parts_before terms rules (form.Par' at _ ps) has = rules_before rules ps has
parts_before terms rules (form.Seq' at _ i p _ j q) has = (rule_before rules _ has.0, rule_before rules _ has.1)
parts_before terms rules (form.If' at g _ i p _ j q) has = (rule_before rules _ has.1, rule_before rules _ has.2)
parts_before terms rules (form.Let' at x t _ i p) has = rule_before rules _ has.1
parts_before terms rules (form.Forall' at bs g _ i p) has = rule_before rules _ has.1
parts_before terms rules (form.Choose' at bs g _ i p _ j q) has = (rule_before rules _ has.1, rule_before rules _ has.2)
parts_before terms rules (form.Call at f ts) has = tt
