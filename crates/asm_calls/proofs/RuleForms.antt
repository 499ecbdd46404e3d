-- The rules that a rule calls, by its variants, as what stands behind other numbers.
use Rattle.std.proofs.Common.{◌≡◌, ℕ, ◌+◌, ◌<◌, List, [], ◌++◌, length, drop, get_or, refl, ap, sym, ◌∙◌, append-nil}
use Rattle.std.specs.Prelude.{map}
use Rattle.std.specs.List.{flat_map}
use Rattle.asm_tree.specs.declared.term.RawBinder.{RawBinder}
use Rattle.asm_tree.specs.declared.term.RawBind.{RawBind}
use Rattle.asm_tree.specs.declared.term.RawTerm.{RawTerm}
use Rattle.asm_tree.specs.declared.rule.RawRule.{RawRule, fold_out-RawRule}
use Rattle.asm_tree.specs.declared.rule.RawRuleKind.{fold-roll-RawRuleKind}
use Rattle.asm_tree.specs.declared.rule.RawRuleKind.TheVariants as rule_kind
use Rattle.asm_tree.specs.declared.rule.RawRuleKind.TheOpen.{RawRuleKind-F}
use Rattle.asm_tree.specs.declared.rule.RawRuleCase.{RawRuleCase, fold_out-RawRuleCase}
use Rattle.name_table.specs.Numbered.{number_of}
use Rattle.asm_faults.specs.At.{Name}
use Rattle.asm_faults.specs.Files.{to_list}
use Rattle.asm_faults.specs.Calls.{Names, numbers_of, called_rules, called_rules_kind}
use Rattle.asm_calls.specs.Called.{rule_step, rule_case_step, rule_kind_called, rule_case_called, rules_in, rules_of_kind, rules_in_case}
use Rattle.asm_calls.proofs.Numbering.{of_two, of_each, each_step}

pub of_rule : (names : List Name) (r : RawRule) → rules_in names r ≡ rules_of_kind names r.kind
unfolding rules_in rules_of_kind
of_rule names r = ap (numbers_of (number_of names)) (fold_out-RawRule Names Names Names called_rules_kind rule_step rule_case_step r)

of_case : (names : List Name) (c : RawRuleCase) → rules_in_case names c ≡ rules_in names c.rule
unfolding rules_in rules_in_case
of_case names c = ap (numbers_of (number_of names)) (fold_out-RawRuleCase Names Names Names called_rules_kind rule_step rule_case_step c)

-- ---- lists

pub rules_step : (names : List Name) (xs : List RawRule) (i : ℕ) (d : RawRule) (s : List ℕ) → i < length xs → s ++ flat_map (rules_in names) (drop i xs) ≡ (s ++ rules_in names (get_or xs i d)) ++ flat_map (rules_in names) (drop (i + 1) xs)
rules_step names xs i d s h = each_step (rules_in names) xs i d s h

pub cases_step : (names : List Name) (xs : List RawRuleCase) (i : ℕ) (d : RawRuleCase) (s : List ℕ) → i < length xs
    → s ++ flat_map (rules_in_case names) (drop i xs) ≡ (s ++ rules_in names (get_or xs i d).rule) ++ flat_map (rules_in_case names) (drop (i + 1) xs)
cases_step names xs i d s h = each_step (rules_in_case names) xs i d s h ∙ ap (λ (z : List ℕ). (s ++ z) ++ flat_map (rules_in_case names) (drop (i + 1) xs)) (of_case names (get_or xs i d))

pub none_left : (s : List ℕ) → s ++ [] ≡ s
none_left s = append-nil s

pub ruleset steps = (rules_step, cases_step, none_left)

-- ---- variants

pub form_skip : (names : List Name) (s : List ℕ) → s ++ rules_of_kind names rule_kind.Skip ≡ s
unfolding rules_of_kind rules_in rules_in_case
form_skip names s =
    ap (λ (xs : Names). s ++ numbers_of (number_of names) xs) (ap rule_kind_called (sym rule_kind.rolls-Skip) ∙ fold-roll-RawRuleKind Names Names Names called_rules_kind rule_step rule_case_step RawRuleKind-F.Skip)
    ∙ append-nil s

pub form_update : (names : List Name) (f : Name) (ts : List RawTerm) (t : RawTerm) (s : List ℕ) → s ++ rules_of_kind names (rule_kind.Update f ts t) ≡ s
unfolding rules_of_kind rules_in rules_in_case
form_update names f ts t s =
    ap (λ (xs : Names). s ++ numbers_of (number_of names) xs) (ap rule_kind_called (sym (rule_kind.rolls-Update f ts t)) ∙ fold-roll-RawRuleKind Names Names Names called_rules_kind rule_step rule_case_step (RawRuleKind-F.Update f ts t))
    ∙ append-nil s

pub form_par : (names : List Name) (ps : List RawRule) (s : List ℕ) → s ++ rules_of_kind names (rule_kind.Par ps) ≡ s ++ flat_map (rules_in names) ps
unfolding rules_of_kind rules_in rules_in_case
form_par names ps s =
    ap (λ (xs : Names). s ++ numbers_of (number_of names) xs) (ap rule_kind_called (sym (rule_kind.rolls-Par ps)) ∙ fold-roll-RawRuleKind Names Names Names called_rules_kind rule_step rule_case_step (RawRuleKind-F.Par ps))
    ∙ ap (λ (z : List ℕ). s ++ z) (of_each (number_of names) called_rules ps)

pub form_seq : (names : List Name) (ps : List RawRule) (s : List ℕ) → s ++ rules_of_kind names (rule_kind.Seq ps) ≡ s ++ flat_map (rules_in names) ps
unfolding rules_of_kind rules_in rules_in_case
form_seq names ps s =
    ap (λ (xs : Names). s ++ numbers_of (number_of names) xs) (ap rule_kind_called (sym (rule_kind.rolls-Seq ps)) ∙ fold-roll-RawRuleKind Names Names Names called_rules_kind rule_step rule_case_step (RawRuleKind-F.Seq ps))
    ∙ ap (λ (z : List ℕ). s ++ z) (of_each (number_of names) called_rules ps)

pub form_if : (names : List Name) (g : RawTerm) (p q : RawRule) (s : List ℕ) → s ++ rules_of_kind names (rule_kind.If g p q) ≡ (s ++ rules_in names p) ++ rules_in names q
unfolding rules_of_kind rules_in rules_in_case
form_if names g p q s =
    ap (λ (xs : Names). s ++ numbers_of (number_of names) xs) (ap rule_kind_called (sym (rule_kind.rolls-If g p q)) ∙ fold-roll-RawRuleKind Names Names Names called_rules_kind rule_step rule_case_step (RawRuleKind-F.If g p q))
    ∙ of_two (number_of names) s (called_rules p) (called_rules q)

pub form_switch : (names : List Name) (t : RawTerm) (cs : List RawRuleCase) (q : RawRule) (s : List ℕ) → s ++ rules_of_kind names (rule_kind.Switch t cs q) ≡ (s ++ flat_map (rules_in_case names) cs) ++ rules_in names q
unfolding rules_of_kind rules_in rules_in_case
form_switch names t cs q s =
    ap (λ (xs : Names). s ++ numbers_of (number_of names) xs) (ap rule_kind_called (sym (rule_kind.rolls-Switch t cs q)) ∙ fold-roll-RawRuleKind Names Names Names called_rules_kind rule_step rule_case_step (RawRuleKind-F.Switch t cs q))
    ∙ of_two (number_of names) s (flat_map (λ (xs : Names). xs) (map rule_case_called cs)) (called_rules q)
    ∙ ap (λ (z : List ℕ). (s ++ z) ++ rules_in names q) (of_each (number_of names) rule_case_called cs)

pub form_let : (names : List Name) (bs : List RawBind) (p : RawRule) (s : List ℕ) → s ++ rules_of_kind names (rule_kind.Let bs p) ≡ s ++ rules_in names p
unfolding rules_of_kind rules_in rules_in_case
form_let names bs p s =
    ap (λ (xs : Names). s ++ numbers_of (number_of names) xs) (ap rule_kind_called (sym (rule_kind.rolls-Let bs p)) ∙ fold-roll-RawRuleKind Names Names Names called_rules_kind rule_step rule_case_step (RawRuleKind-F.Let bs p))
    ∙ refl

pub form_forall : (names : List Name) (bs : List RawBinder) (g : RawTerm) (p : RawRule) (s : List ℕ) → s ++ rules_of_kind names (rule_kind.Forall bs g p) ≡ s ++ rules_in names p
unfolding rules_of_kind rules_in rules_in_case
form_forall names bs g p s =
    ap (λ (xs : Names). s ++ numbers_of (number_of names) xs) (ap rule_kind_called (sym (rule_kind.rolls-Forall bs g p)) ∙ fold-roll-RawRuleKind Names Names Names called_rules_kind rule_step rule_case_step (RawRuleKind-F.Forall bs g p))
    ∙ refl

pub form_choose : (names : List Name) (bs : List RawBinder) (g : RawTerm) (p q : RawRule) (s : List ℕ) → s ++ rules_of_kind names (rule_kind.Choose bs g p q) ≡ (s ++ rules_in names p) ++ rules_in names q
unfolding rules_of_kind rules_in rules_in_case
form_choose names bs g p q s =
    ap (λ (xs : Names). s ++ numbers_of (number_of names) xs) (ap rule_kind_called (sym (rule_kind.rolls-Choose bs g p q)) ∙ fold-roll-RawRuleKind Names Names Names called_rules_kind rule_step rule_case_step (RawRuleKind-F.Choose bs g p q))
    ∙ of_two (number_of names) s (called_rules p) (called_rules q)

pub form_call : (names : List Name) (r : Name) (ts : List RawTerm) (s : List ℕ) → s ++ rules_of_kind names (rule_kind.Call r ts) ≡ s ++ to_list (number_of names r)
unfolding rules_of_kind rules_in rules_in_case
form_call names r ts s =
    ap (λ (xs : Names). s ++ numbers_of (number_of names) xs) (ap rule_kind_called (sym (rule_kind.rolls-Call r ts)) ∙ fold-roll-RawRuleKind Names Names Names called_rules_kind rule_step rule_case_step (RawRuleKind-F.Call r ts))
    ∙ ap (λ (z : List ℕ). s ++ z) (append-nil (to_list (number_of names r)))

pub ruleset forms = (form_skip, form_update, form_par, form_seq, form_if, form_switch, form_let, form_forall, form_choose, form_call)
