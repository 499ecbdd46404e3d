-- The documents of rules.
use Rattle.std.proofs.Common.{◌≡◌, ℕ, ◌+◌, false, List, [], ◌∷◌, ◌++◌, Some, None, Option, refl, ap, sym, ◌∙◌, subst}
use Rattle.std.specs.Prelude.{codes, map}
use Rattle.asm_grammar.specs.Grammar.{both, shown}
use Rattle.asm_tree.specs.Words.{class_of, number}
use Rattle.asm_tree.specs.declared.term.RawBinder.{RawBinder}
use Rattle.asm_tree.specs.declared.term.RawBind.{RawBind}
use Rattle.asm_tree.specs.declared.term.RawTerm.{RawTerm}
use Rattle.asm_tree.specs.declared.rule.RawRule.{RawRule}
use Rattle.asm_tree.specs.declared.rule.RawRuleKind.{RawRuleKind}
use Rattle.asm_tree.specs.declared.rule.RawRuleKind.TheVariants as rule_kind
use Rattle.asm_tree.specs.declared.rule.RawRuleCase.{RawRuleCase}
use Rattle.asm_tree.specs.Language.{TokenText, functions, rules, Actuals, Parallel, Sequence, Conditional, Switch, Let, Forall, Choose}
use Rattle.asm_tree.specs.Rules.{update_rule, par_rule, seq_rule, if_rule, switch_rule, let_rule, forall_rule, choose_rule, call_rule, update, macro_call, block, rule, more_rules, other_rule, otherwise_rule, if_none, case_rule, more_case_rules, body}
use Rattle.asm_canonical.specs.Document as document
use Rattle.asm_canonical.specs.Document.{Item, Gap, Line, One, Doc, parenthesized, commas, lines}
use Rattle.asm_canonical.specs.Terms.{whole_term, bind_doc, binders_doc}
use Rattle.asm_canonical.specs.Rules.{rule_doc, kind_doc, case_doc}
use Rattle.asm_canonical.specs.Placeless.{plain_binder, plain_term, plain_bind, plain_rule, plain_rule_kind, plain_rule_case}
use Rattle.asm_canonical.proofs.RuleDocuments.{doc_rule, doc_rule_case, doc_skip, doc_update, doc_par, doc_seq, doc_if, doc_switch, doc_let, doc_forall, doc_choose, doc_call}
use Rattle.asm_canonical.proofs.PlainRules.{plain_of_rule, plain_of_rule_case, plain_update, plain_par, plain_seq, plain_if, plain_switch, plain_let, plain_forall, plain_choose, plain_call}
use Rattle.asm_canonical.proofs.Ends.{stops, word_stops, free_bracket, free_close_bracket, free_assign, stops_colon}
use Rattle.asm_canonical.proofs.Cutting.{Leads, leads_nil, leads_gap, leads_line, leads_byte, joins_leads}
use Rattle.asm_canonical.proofs.Made.{Every}
use Rattle.asm_canonical.proofs.Good.{Good, IsKind, good_nothing, good_left, good_right, good_shown, good_where, good_both, good_first, good_after, good_gap, good_line, good_none, good_more, good_opening}
use Rattle.asm_canonical.proofs.Phrases.{is_kind, Given, function_stops, rule_stops, word_then, word_line, symbol_then, word_alone, symbol_alone, closed, word_opens, free_opens}
use Rattle.asm_canonical.proofs.Levels.{whole}
use Rattle.asm_canonical.proofs.GoodTerms.{GoodTerm, GoodBinder, GoodBind, terms_good, arguments_good, binders_good, binds_good, guard_good}

-- the same kind but for places
abbrev pub SameRule : RawRuleKind → RawRule → Type 0
SameRule k r = plain_rule_kind r.kind ≡ plain_rule_kind k

pub record GoodRuleKind (k : RawRuleKind) : Type 0 where
  pub good : (n : ℕ) → Good (rule false) (kind_doc k n) (SameRule k)

abbrev pub GoodRule : RawRule → Type 0
GoodRule r = GoodRuleKind r.kind

rule_from : (r s : RawRule) → SameRule r.kind s → plain_rule s ≡ plain_rule r
rule_from r s e = plain_of_rule s ∙ ap (λ z. record { at = 0; kind = z }) e ∙ sym (plain_of_rule r)

pub child_rule : (r : RawRule) → GoodRule r → (n : ℕ) → Good (rule false) (rule_doc r n) (λ s. plain_rule s ≡ plain_rule r)
child_rule r g n = subst (λ (d : Doc). Good (rule false) (d n) (λ s. plain_rule s ≡ plain_rule r)) (sym (doc_rule r)) (good_where (g.good n) (λ s e. rule_from r s e))

-- ---- simple rules

pub good_skip : GoodRuleKind rule_kind.Skip
unfolding number class_of rule
good_skip = record { good = λ n. subst (λ (d : Doc). Good (rule false) (d n) (SameRule rule_kind.Skip)) (sym doc_skip) (good_left (good_shown (word_alone (codes "skip") refl refl) (λ t e. refl))) }

leads_called : (ds : List (List Item)) (d : List Item) → Leads (document.arguments ds ++ (Gap ∷ d))
leads_called [] d = leads_gap
leads_called (e ∷ ds) d = leads_byte refl

update_same : (f : List ℕ) (xs : List RawTerm) (y : RawTerm) (p : TokenText × (List RawTerm × RawTerm)) → (p.0.text ≡ f) × ((map plain_term p.1.0 ≡ map plain_term xs) × (plain_term p.1.1 ≡ plain_term y)) → SameRule (rule_kind.Update f xs y) (update_rule p)
update_same f xs y p h =
    plain_update p.0.text p.1.0 p.1.1 ∙ ap (λ z. rule_kind.Update z (map plain_term p.1.0) (plain_term p.1.1)) h.0 ∙ ap (λ z. rule_kind.Update f z (plain_term p.1.1)) h.1.0 ∙ ap (λ z. rule_kind.Update f (map plain_term xs) z) h.1.1 ∙ sym (plain_update f xs y)

pub good_update : (f : List ℕ) (xs : List RawTerm) (y : RawTerm) → IsKind f (functions false) → Every GoodTerm xs → GoodTerm y → GoodRuleKind (rule_kind.Update f xs y)
unfolding number class_of rule update
good_update f xs y k p q = record {
  good = λ n. subst (λ (d : Doc). Good (rule false) (d n) (SameRule (rule_kind.Update f xs y))) (sym (doc_update f xs y))
      (good_right (good_left (good_shown (good_first k (joins_leads (function_stops k) (leads_called (map whole_term xs) (One (codes ":=") ∷ Gap ∷ whole_term y)))
      (good_both (arguments_good xs p) leads_gap (good_gap (symbol_then (stops free_assign) refl (whole y q))))) (update_same f xs y))));
}

call_same : (r : List ℕ) (xs : List RawTerm) (p : TokenText × List RawTerm) → (p.0.text ≡ r) × (map plain_term p.1 ≡ map plain_term xs) → SameRule (rule_kind.Call r xs) (call_rule p)
call_same r xs p h = plain_call p.0.text p.1 ∙ ap (λ z. rule_kind.Call z (map plain_term p.1)) h.0 ∙ ap (λ z. rule_kind.Call r z) h.1 ∙ sym (plain_call r xs)

actuals_good : (xs : List RawTerm) → Every GoodTerm xs → Good (body false Actuals) (commas (map whole_term xs) ++ One (codes "]") ∷ []) (λ ys. map plain_term ys ≡ map plain_term xs)
unfolding number class_of body
actuals_good [] g = closed {a = []} (good_right (good_nothing refl)) (leads_byte refl) (symbol_alone (stops free_close_bracket) refl)
actuals_good (x ∷ xs) g = closed (good_left (terms_good x xs g)) (leads_byte refl) (symbol_alone (stops free_close_bracket) refl)

pub good_rule_call : (r : List ℕ) (xs : List RawTerm) → IsKind r rules → Every GoodTerm xs → GoodRuleKind (rule_kind.Call r xs)
unfolding number class_of rule macro_call
good_rule_call r xs k g = record {
  good = λ n. subst (λ (d : Doc). Good (rule false) (d n) (SameRule (rule_kind.Call r xs))) (sym (doc_call r xs))
      (good_right (good_right (good_left (good_shown (good_first k (joins_leads (rule_stops k) (leads_byte refl))
      (good_shown {Q = λ ys. map plain_term ys ≡ map plain_term xs} (free_opens {x = Actuals} free_bracket refl (actuals_good xs g)) (λ p h. h.1))) (call_same r xs)))));
}

-- ---- lists of rules

abbrev rule_lines : ℕ → List RawRule → List Item
rule_lines m rs = lines m (map (λ (d : Doc). d m) (map rule_doc rs))

pub leads_lines : (m : ℕ) (ds : List (List Item)) → Leads (lines m ds)
leads_lines m [] = leads_nil
leads_lines m (d ∷ ds) = leads_line

more_rules_good : (m : ℕ) (rs : List RawRule) → Every GoodRule rs → Good (more_rules false) (rule_lines m rs) (λ ss. map plain_rule ss ≡ map plain_rule rs)
unfolding more_rules
more_rules_good m [] g = good_none {f = plain_rule}
more_rules_good m (r ∷ rs) g = good_more {f = plain_rule} {a = Line m ∷ rule_doc r m} {x = r} rs (good_line (child_rule r g.0 m)) (leads_lines m (map (λ (d : Doc). d m) (map rule_doc rs))) (more_rules_good m rs g.1)

some_rules : (m : ℕ) (r : RawRule) (rs : List RawRule) → Every GoodRule (r ∷ rs) → Good (shown (λ p. p.0 ∷ p.1) (both (rule false) (more_rules false))) (rule_lines m (r ∷ rs)) (λ ss. map plain_rule ss ≡ map plain_rule (r ∷ rs))
some_rules m r rs g = good_shown (good_both {a = Line m ∷ rule_doc r m} (good_line (child_rule r g.0 m)) (leads_lines m (map (λ (d : Doc). d m) (map rule_doc rs))) (more_rules_good m rs g.1))
    (λ p h. ap (λ z. z ∷ map plain_rule p.1) h.0 ∙ ap (λ z. plain_rule r ∷ z) h.1)

par_same : (rs : List RawRule) (p : TokenText × List RawRule) → (p.0.text ≡ codes "par") × (map plain_rule p.1 ≡ map plain_rule rs) → SameRule (rule_kind.Par rs) (par_rule p)
par_same rs p h = plain_par p.1 ∙ ap (λ z. rule_kind.Par z) h.1 ∙ sym (plain_par rs)

seq_same : (rs : List RawRule) (p : TokenText × List RawRule) → (p.0.text ≡ codes "seq") × (map plain_rule p.1 ≡ map plain_rule rs) → SameRule (rule_kind.Seq rs) (seq_rule p)
seq_same rs p h = plain_seq p.1 ∙ ap (λ z. rule_kind.Seq z) h.1 ∙ sym (plain_seq rs)

pub good_par : (r : RawRule) (rs : List RawRule) → Every GoodRule (r ∷ rs) → GoodRuleKind (rule_kind.Par (r ∷ rs))
unfolding number class_of rule block body
good_par r rs g = record {
  good = λ n. subst (λ (d : Doc). Good (rule false) (d n) (SameRule (rule_kind.Par (r ∷ rs)))) (sym (doc_par (r ∷ rs)))
      (good_right (good_right (good_right (good_left (good_shown (good_opening {x = Parallel} (is_kind refl) (joins_leads (word_stops (codes "par") refl) leads_line)
      (closed {a = rule_lines (n + 1) (r ∷ rs)} (some_rules (n + 1) r rs g) leads_line (good_line (word_alone (codes "endpar") refl refl)))) (par_same (r ∷ rs)))))));
}

pub good_seq : (r : RawRule) (rs : List RawRule) → Every GoodRule (r ∷ rs) → GoodRuleKind (rule_kind.Seq (r ∷ rs))
unfolding number class_of rule block body
good_seq r rs g = record {
  good = λ n. subst (λ (d : Doc). Good (rule false) (d n) (SameRule (rule_kind.Seq (r ∷ rs)))) (sym (doc_seq (r ∷ rs)))
      (good_right (good_right (good_right (good_right (good_left (good_shown (good_opening {x = Sequence} (is_kind refl) (joins_leads (word_stops (codes "seq") refl) leads_line)
      (closed {a = rule_lines (n + 1) (r ∷ rs)} (some_rules (n + 1) r rs g) leads_line (good_line (word_alone (codes "endseq") refl refl)))) (seq_same (r ∷ rs))))))));
}

-- ---- branches

if_same : (g : RawTerm) (p q : RawRule) (v : TokenText × (RawTerm × (RawRule × Option RawRule)))
    → (v.0.text ≡ codes "if") × ((plain_term v.1.0 ≡ plain_term g) × ((plain_rule v.1.1.0 ≡ plain_rule p) × Given (λ z. plain_rule z ≡ plain_rule q) v.1.1.1)) → SameRule (rule_kind.If g p q) (if_rule v)
if_same g p q (t, (g', (p', None))) h = absurd h.1.1.1
if_same g p q (t, (g', (p', Some q'))) h =
    plain_if g' p' q' ∙ ap (λ z. rule_kind.If z (plain_rule p') (plain_rule q')) h.1.0 ∙ ap (λ z. rule_kind.If (plain_term g) z (plain_rule q')) h.1.1.0 ∙ ap (λ z. rule_kind.If (plain_term g) (plain_rule p) z) h.1.1.1 ∙ sym (plain_if g p q)

pub good_if : (g : RawTerm) (p q : RawRule) → GoodTerm g → GoodRule p → GoodRule q → GoodRuleKind (rule_kind.If g p q)
unfolding number class_of rule block body other_rule
good_if g p q a b c = record {
  good = λ n. subst (λ (d : Doc). Good (rule false) (d n) (SameRule (rule_kind.If g p q))) (sym (doc_if g p q))
      (good_right (good_right (good_right (good_right (good_right (good_left (good_shown (word_opens {x = Conditional} (codes "if") refl refl
      (good_both (whole g a) leads_gap (good_gap (word_line (codes "then") (n + 1) refl refl
      (good_both (child_rule p b (n + 1)) leads_line (good_line (closed {a = One (codes "else") ∷ Line (n + 1) ∷ rule_doc q (n + 1)}
      (good_left (good_shown {Q = Given (λ z. plain_rule z ≡ plain_rule q)} (word_line (codes "else") (n + 1) refl refl (child_rule q c (n + 1))) (λ z h. h))) leads_line (good_line (word_alone (codes "endif") refl refl))))))))) (if_same g p q))))))));
}

pub record GoodRuleCase (c : RawRuleCase) : Type 0 where
  pub label : GoodTerm c.label
  pub rule : GoodRule c.rule

rule_case_good : (n : ℕ) (c : RawRuleCase) → GoodRuleCase c → Good (case_rule false) (case_doc c n) (λ d. plain_rule_case d ≡ plain_rule_case c)
unfolding number class_of case_rule
rule_case_good n c g = subst (λ (d : Doc). Good (case_rule false) (d n) (λ d. plain_rule_case d ≡ plain_rule_case c)) (sym (doc_rule_case c))
    (word_then (codes "case") refl refl (good_shown (good_both (whole c.label g.label) leads_gap (good_gap (good_after (is_kind refl) (joins_leads stops_colon leads_line) (good_line (child_rule c.rule g.rule (n + 1))))))
    (λ p h. plain_of_rule_case (record { label = p.0; rule = p.1 }) ∙ ap (λ z. record { label = z; rule = plain_rule p.1 }) h.0 ∙ ap (λ z. record { label = plain_term c.label; rule = z }) h.1 ∙ sym (plain_of_rule_case c))))

abbrev case_lines : ℕ → List RawRuleCase → List Item
case_lines n cs = lines n (map (λ (d : Doc). d n) (map case_doc cs))

more_rule_cases : (n : ℕ) (cs : List RawRuleCase) → Every GoodRuleCase cs → Good (more_case_rules false) (case_lines n cs) (λ ds. map plain_rule_case ds ≡ map plain_rule_case cs)
unfolding more_case_rules
more_rule_cases n [] g = good_none {f = plain_rule_case}
more_rule_cases n (c ∷ cs) g = good_more {f = plain_rule_case} {a = Line n ∷ case_doc c n} {x = c} cs (good_line (rule_case_good n c g.0)) (leads_lines n (map (λ (d : Doc). d n) (map case_doc cs))) (more_rule_cases n cs g.1)

switch_same : (x : RawTerm) (cs : List RawRuleCase) (q : RawRule) (v : TokenText × (RawTerm × (List RawRuleCase × Option RawRule)))
    → (v.0.text ≡ codes "switch") × ((plain_term v.1.0 ≡ plain_term x) × ((map plain_rule_case v.1.1.0 ≡ map plain_rule_case cs) × Given (λ z. plain_rule z ≡ plain_rule q) v.1.1.1)) → SameRule (rule_kind.Switch x cs q) (switch_rule v)
switch_same x cs q (t, (x', (cs', None))) h = absurd h.1.1.1
switch_same x cs q (t, (x', (cs', Some q'))) h =
    plain_switch x' cs' q' ∙ ap (λ z. rule_kind.Switch z (map plain_rule_case cs') (plain_rule q')) h.1.0 ∙ ap (λ z. rule_kind.Switch (plain_term x) z (plain_rule q')) h.1.1.0 ∙ ap (λ z. rule_kind.Switch (plain_term x) (map plain_rule_case cs) z) h.1.1.1 ∙ sym (plain_switch x cs q)

pub good_rule_switch : (x : RawTerm) (c : RawRuleCase) (cs : List RawRuleCase) (q : RawRule) → GoodTerm x → Every GoodRuleCase (c ∷ cs) → GoodRule q → GoodRuleKind (rule_kind.Switch x (c ∷ cs) q)
unfolding number class_of rule block body otherwise_rule
good_rule_switch x c cs q a b d = record {
  good = λ n. subst (λ (e : Doc). Good (rule false) (e n) (SameRule (rule_kind.Switch x (c ∷ cs) q))) (sym (doc_switch x (c ∷ cs) q))
      (good_right (good_right (good_right (good_right (good_right (good_right (good_left (good_shown (word_opens {x = Switch} (codes "switch") refl refl
      (good_both (whole x a) leads_line
      (good_both {a = case_lines n (c ∷ cs)} (good_shown {Q = λ ds. map plain_rule_case ds ≡ map plain_rule_case (c ∷ cs)} (good_both {a = Line n ∷ case_doc c n} (good_line (rule_case_good n c b.0)) (leads_lines n (map (λ (d : Doc). d n) (map case_doc cs))) (more_rule_cases n cs b.1))
      (λ z h. ap (λ v. v ∷ map plain_rule_case z.1) h.0 ∙ ap (λ v. plain_rule_case c ∷ v) h.1))
      leads_line (closed {a = Line n ∷ One (codes "otherwise") ∷ Line (n + 1) ∷ rule_doc q (n + 1)}
      (good_line (good_left (good_shown {Q = Given (λ z. plain_rule z ≡ plain_rule q)} (word_line (codes "otherwise") (n + 1) refl refl (child_rule q d (n + 1))) (λ z h. h)))) leads_line (good_line (word_alone (codes "endswitch") refl refl)))))) (switch_same x (c ∷ cs) q)))))))));
}

-- ---- rules with variables

let_same : (bs : List RawBind) (p : RawRule) (v : TokenText × (List RawBind × RawRule)) → (v.0.text ≡ codes "let") × ((map plain_bind v.1.0 ≡ map plain_bind bs) × (plain_rule v.1.1 ≡ plain_rule p)) → SameRule (rule_kind.Let bs p) (let_rule v)
let_same bs p (t, (bs', p')) h = plain_let bs' p' ∙ ap (λ z. rule_kind.Let z (plain_rule p')) h.1.0 ∙ ap (λ z. rule_kind.Let (map plain_bind bs) z) h.1.1 ∙ sym (plain_let bs p)

pub good_rule_let : (b : RawBind) (bs : List RawBind) (p : RawRule) → Every GoodBind (b ∷ bs) → GoodRule p → GoodRuleKind (rule_kind.Let (b ∷ bs) p)
unfolding number class_of rule block body
good_rule_let b bs p a g = record {
  good = λ n. subst (λ (d : Doc). Good (rule false) (d n) (SameRule (rule_kind.Let (b ∷ bs) p))) (sym (doc_let (b ∷ bs) p))
      (good_right (good_right (good_right (good_right (good_right (good_right (good_right (good_left (good_shown (word_opens {x = Let} (codes "let") refl refl
      (good_both {a = parenthesized (commas (map bind_doc (b ∷ bs)))} (binds_good b bs a) leads_gap (good_gap (word_line (codes "in") (n + 1) refl refl (closed (child_rule p g (n + 1)) leads_line (good_line (word_alone (codes "endlet") refl refl))))))) (let_same (b ∷ bs) p))))))))));
}

forall_same : (bs : List RawBinder) (g : RawTerm) (p : RawRule) (v : TokenText × (List RawBinder × (Option RawTerm × RawRule)))
    → (v.0.text ≡ codes "forall") × ((map plain_binder v.1.0 ≡ map plain_binder bs) × (Given (λ z. plain_term z ≡ plain_term g) v.1.1.0 × (plain_rule v.1.1.1 ≡ plain_rule p))) → SameRule (rule_kind.Forall bs g p) (forall_rule v)
forall_same bs g p (t, (bs', (None, p'))) h = absurd h.1.1.0
forall_same bs g p (t, (bs', (Some g', p'))) h =
    plain_forall bs' g' p' ∙ ap (λ z. rule_kind.Forall z (plain_term g') (plain_rule p')) h.1.0 ∙ ap (λ z. rule_kind.Forall (map plain_binder bs) z (plain_rule p')) h.1.1.0 ∙ ap (λ z. rule_kind.Forall (map plain_binder bs) (plain_term g) z) h.1.1.1 ∙ sym (plain_forall bs g p)

pub good_forall : (b : RawBinder) (bs : List RawBinder) (g : RawTerm) (p : RawRule) → Every GoodBinder (b ∷ bs) → GoodTerm g → GoodRule p → GoodRuleKind (rule_kind.Forall (b ∷ bs) g p)
unfolding number class_of rule block body
good_forall b bs g p a c r = record {
  good = λ n. subst (λ (d : Doc). Good (rule false) (d n) (SameRule (rule_kind.Forall (b ∷ bs) g p))) (sym (doc_forall (b ∷ bs) g p))
      (good_right (good_right (good_right (good_right (good_right (good_right (good_right (good_right (good_left (good_shown (word_opens {x = Forall} (codes "forall") refl refl
      (good_both {a = binders_doc (b ∷ bs)} (binders_good b bs a) leads_gap (good_gap (good_both {a = One (codes "with") ∷ Gap ∷ whole_term g} (guard_good g c) leads_gap (good_gap (word_line (codes "do") (n + 1) refl refl (child_rule p r (n + 1)))))))) (forall_same (b ∷ bs) g p)))))))))));
}

choose_same : (bs : List RawBinder) (g : RawTerm) (p q : RawRule) (v : TokenText × (List RawBinder × (Option RawTerm × (RawRule × Option RawRule))))
    → (v.0.text ≡ codes "choose") × ((map plain_binder v.1.0 ≡ map plain_binder bs) × (Given (λ z. plain_term z ≡ plain_term g) v.1.1.0 × ((plain_rule v.1.1.1.0 ≡ plain_rule p) × Given (λ z. plain_rule z ≡ plain_rule q) v.1.1.1.1))) → SameRule (rule_kind.Choose bs g p q) (choose_rule v)
choose_same bs g p q (t, (bs', (None, (p', q')))) h = absurd h.1.1.0
choose_same bs g p q (t, (bs', (Some g', (p', None)))) h = absurd h.1.1.1.1
choose_same bs g p q (t, (bs', (Some g', (p', Some q')))) h =
    plain_choose bs' g' p' q' ∙ ap (λ z. rule_kind.Choose z (plain_term g') (plain_rule p') (plain_rule q')) h.1.0 ∙ ap (λ z. rule_kind.Choose (map plain_binder bs) z (plain_rule p') (plain_rule q')) h.1.1.0
    ∙ ap (λ z. rule_kind.Choose (map plain_binder bs) (plain_term g) z (plain_rule q')) h.1.1.1.0 ∙ ap (λ z. rule_kind.Choose (map plain_binder bs) (plain_term g) (plain_rule p) z) h.1.1.1.1 ∙ sym (plain_choose bs g p q)

pub good_choose : (b : RawBinder) (bs : List RawBinder) (g : RawTerm) (p q : RawRule) → Every GoodBinder (b ∷ bs) → GoodTerm g → GoodRule p → GoodRule q → GoodRuleKind (rule_kind.Choose (b ∷ bs) g p q)
unfolding number class_of rule block body if_none
good_choose b bs g p q a c r s = record {
  good = λ n. subst (λ (d : Doc). Good (rule false) (d n) (SameRule (rule_kind.Choose (b ∷ bs) g p q))) (sym (doc_choose (b ∷ bs) g p q))
      (good_right (good_right (good_right (good_right (good_right (good_right (good_right (good_right (good_right (good_shown (word_opens {x = Choose} (codes "choose") refl refl
      (good_both {a = binders_doc (b ∷ bs)} (binders_good b bs a) leads_gap (good_gap (good_both {a = One (codes "with") ∷ Gap ∷ whole_term g} (guard_good g c) leads_gap (good_gap (word_line (codes "do") (n + 1) refl refl
      (good_both (child_rule p r (n + 1)) leads_line (good_line (good_left (good_shown {Q = Given (λ z. plain_rule z ≡ plain_rule q)} (word_line (codes "ifnone") (n + 1) refl refl (child_rule q s (n + 1))) (λ z h. h))))))))))) (choose_same (b ∷ bs) g p q)))))))))));
}
