-- The documents of terms.
use Rattle.std.proofs.Common.{◌≡◌, ℕ, suc, ◌≤◌, Bool, true, false, List, [], ◌∷◌, ◌++◌, Some, None, Option, refl, ap, sym, ◌∙◌, subst}
use Rattle.std.specs.Prelude.{codes, map}
use Rattle.std.specs.Fmt.{decimal}
use Rattle.std.specs.Str.Parse.{digits_value}
use Rattle.asm_lex.specs.Cut.{greatest_number}
use Rattle.asm_grammar.specs.Grammar.{both, shown, opening, has}
use Rattle.asm_tree.specs.Words.{class_of, number, kind_of}
use Rattle.asm_tree.specs.declared.class.Class.TheVariants as class
use Rattle.asm_tree.specs.declared.operator.Quantifier.{Quantifier}
use Rattle.asm_tree.specs.declared.operator.Quantifier.TheVariants as quantifier
use Rattle.asm_tree.specs.declared.term.RawBinder.{RawBinder}
use Rattle.asm_tree.specs.declared.term.RawBind.{RawBind}
use Rattle.asm_tree.specs.declared.term.RawCase.{RawCase}
use Rattle.asm_tree.specs.declared.term.RawTerm.{RawTerm}
use Rattle.asm_tree.specs.declared.term.RawTermKind.{RawTermKind}
use Rattle.asm_tree.specs.declared.term.RawTermKind.TheVariants as term_kind
use Rattle.asm_tree.specs.Language.{TokenText, Grouping, Quantified, Plain, functions, elements, domains, variables, Arguments, Grouped, ForallTerm, ExistTerm, ConditionalTerm, SwitchTerm, LetTerm, Binds}
use Rattle.asm_tree.specs.Terms.{call_of, conditional_term, switch_term, let_term, forall_term, exist_term, other_or, guard_or, grouped, arguments, call, leaf, named, enclosed, primary, term, binder, more_binders, binders, guard, bind, more_binds, more_terms, terms, other_term, otherwise_term, case_term, more_case_terms, unique, quantifier_term, group}
use Rattle.asm_tree.specs.Rules.{body}
use Rattle.asm_canonical.specs.Document as document
use Rattle.asm_canonical.specs.Document.{Item, Gap, One, Doc, word, parenthesized, commas, further, behind_gaps}
use Rattle.asm_canonical.specs.Terms.{term_doc, kind_doc, whole_term, bind_doc, case_doc, binder_doc, binders_doc, quantifier_doc}
use Rattle.asm_canonical.specs.Placeless.{plain_name, plain_binder, plain_term, plain_term_kind, plain_bind, plain_case}
use Rattle.asm_canonical.proofs.TermDocuments.{doc_number, doc_truth, doc_undef, doc_variable, doc_element, doc_call, doc_cond, doc_switch, doc_let, doc_quant, doc_bind, doc_case}
use Rattle.asm_canonical.proofs.PlainTerms.{plain_call, plain_cond, plain_switch, plain_let, plain_quant, plain_of_bind, plain_of_case}
use Rattle.asm_canonical.proofs.Ends.{stops, word_stops, decimal_stops, decimal_number, decimal_value, free_open, free_close, free_comma, free_equal, stops_colon}
use Rattle.asm_canonical.proofs.Classes.{class_number, kind_variable, kind_word}
use Rattle.asm_canonical.proofs.Cutting.{Leads, leads_nil, leads_gap, leads_byte, joins_leads}
use Rattle.asm_canonical.proofs.Made.{Every}
use Rattle.asm_canonical.proofs.Good.{Good, IsKind, good_word, good_nothing, good_left, good_right, good_shown, good_both, good_first, good_gap, good_none, good_more, good_name, good_opening}
use Rattle.asm_canonical.proofs.Phrases.{is_kind, Given, function_stops, element_stops, domain_stops, variable_ends, word_then, symbol_then, word_alone, symbol_alone, closed, word_opens, free_opens}
use Rattle.asm_canonical.proofs.Levels.{at, Same, GoodKind, Fronts, fronts_byte, fronts_word, fronts_number, fronts_variable, looser, whole}

-- a kind whose document is the same on each level, and a primary
alike : (k : RawTermKind) (d : List Item) → kind_doc k ≡ (λ (l : ℕ). d) → Good (primary false) d (Same k) → Fronts d → GoodKind k
alike k d e g f = record {
  good = λ l. subst (λ (z : Doc). Good (at l) (z l) (Same k)) (sym e) (looser k l g);
  fronts = λ l. subst (λ (z : Doc). Fronts (z l)) (sym e) f;
}

-- ---- leaves

number_kind : (n : ℕ) → n ≤ greatest_number → has (suc (number (class_of (decimal n)))) (kind_of class.Number ∷ []) ≡ true
unfolding number
number_kind n le = ap (λ z. has (suc (number z)) (kind_of class.Number ∷ [])) (class_number (decimal n) (decimal_number n le))

pub good_number : (n : ℕ) → n ≤ greatest_number → GoodKind (term_kind.Number n)
unfolding primary leaf
good_number n le = alike (term_kind.Number n) (word (decimal n)) (doc_number n)
    (good_left (good_left (good_shown (good_word (decimal_stops n le) (is_kind (number_kind n le)) (λ t e. e)) (λ t e. ap (λ z. plain_term_kind (term_kind.Number z)) (ap (digits_value 10) e ∙ decimal_value n le)))))
    (fronts_number (decimal n) (decimal_number n le))

pub good_truth : (b : Bool) → GoodKind (term_kind.Truth b)
unfolding number class_of primary leaf
good_truth true = alike (term_kind.Truth true) (word (codes "true")) (doc_truth true) (good_left (good_right (good_left (good_shown (word_alone (codes "true") refl refl) (λ t e. refl))))) (fronts_byte refl)
good_truth false = alike (term_kind.Truth false) (word (codes "false")) (doc_truth false) (good_left (good_right (good_right (good_left (good_shown (word_alone (codes "false") refl refl) (λ t e. refl)))))) (fronts_byte refl)

pub good_undef : GoodKind term_kind.Undef
unfolding number class_of primary leaf
good_undef = alike term_kind.Undef (word (codes "undef")) doc_undef (good_left (good_right (good_right (good_right (good_left (good_shown (word_alone (codes "undef") refl refl) (λ t e. refl))))))) (fronts_byte refl)

pub good_variable : (v : List ℕ) → IsKind v variables → GoodKind (term_kind.Variable v)
unfolding number primary leaf
good_variable v k = alike (term_kind.Variable v) (word v) (doc_variable v)
    (good_left (good_right (good_right (good_right (good_right (good_left (good_shown (good_word {P = λ t. t.text ≡ v} (variable_ends k) k (λ t e. e)) (λ t e. ap (λ z. plain_term_kind (term_kind.Variable z)) e))))))))
    (fronts_variable v (kind_variable v k.kind))

pub good_element : (e : List ℕ) → IsKind e elements → GoodKind (term_kind.Element e)
unfolding number primary leaf
good_element v k = alike (term_kind.Element v) (word v) (doc_element v)
    (good_left (good_right (good_right (good_right (good_right (good_right (good_shown (good_word {P = λ t. t.text ≡ v} (element_stops k) k (λ t e. e)) (λ t e. ap (λ z. plain_term_kind (term_kind.Element z)) e))))))))
    (fronts_word v (kind_word v elements refl k.kind))

-- ---- lists of terms

pub leads_further : (ds : List (List Item)) → Leads (further (codes ",") ds)
leads_further [] = leads_nil
leads_further (d ∷ ds) = leads_byte refl

abbrev pub GoodTerm : RawTerm → Type 0
GoodTerm x = GoodKind x.kind

more_good : (xs : List RawTerm) → Every GoodTerm xs → Good (more_terms false) (further (codes ",") (map whole_term xs)) (λ ys. map plain_term ys ≡ map plain_term xs)
unfolding number class_of more_terms
more_good [] g = good_none {f = plain_term}
more_good (x ∷ xs) g = good_more {f = plain_term} {a = One (codes ",") ∷ Gap ∷ whole_term x} {x = x} xs (symbol_then (stops free_comma) refl (whole x g.0)) (leads_further (map whole_term xs)) (more_good xs g.1)

pub terms_good : (x : RawTerm) (xs : List RawTerm) → Every GoodTerm (x ∷ xs) → Good (terms false) (commas (map whole_term (x ∷ xs))) (λ ys. map plain_term ys ≡ map plain_term (x ∷ xs))
unfolding terms
terms_good x xs g = good_shown (good_both (whole x g.0) (leads_further (map whole_term xs)) (more_good xs g.1)) (λ p h. ap (λ z. z ∷ map plain_term p.1) h.0 ∙ ap (λ z. plain_term x ∷ z) h.1)

pub arguments_good : (xs : List RawTerm) → Every GoodTerm xs → Good (Rattle.asm_tree.specs.Terms.arguments false) (document.arguments (map whole_term xs)) (λ ys. map plain_term ys ≡ map plain_term xs)
unfolding number class_of arguments body
arguments_good [] g = good_right (good_nothing refl)
arguments_good (x ∷ xs) g = good_left (good_shown (free_opens {x = Arguments} free_open refl (closed (terms_good x xs g) (leads_byte refl) (symbol_alone (stops free_close) refl))) (λ p h. h.1))

pub leads_arguments : (ds : List (List Item)) → Leads (document.arguments ds)
leads_arguments [] = leads_nil
leads_arguments (d ∷ ds) = leads_byte refl

at_whole : (xs : List RawTerm) → map (λ (d : Doc). d 1) (map term_doc xs) ≡ map whole_term xs
at_whole [] = refl
at_whole (x ∷ xs) = ap (λ z. whole_term x ∷ z) (at_whole xs)

call_doc : (f : List ℕ) (xs : List RawTerm) → kind_doc (term_kind.Call f xs) ≡ (λ (l : ℕ). word f ++ document.arguments (map whole_term xs))
call_doc f xs = doc_call f xs ∙ ap (λ z (l : ℕ). word f ++ document.arguments z) (at_whole xs)

call_same : (f : List ℕ) (xs : List RawTerm) (p : TokenText × List RawTerm) → (p.0.text ≡ f) × (map plain_term p.1 ≡ map plain_term xs) → Same (term_kind.Call f xs) (call_of p)
call_same f xs p h = plain_call p.0.text p.1 ∙ ap (λ z. term_kind.Call z (map plain_term p.1)) h.0 ∙ ap (λ z. term_kind.Call f z) h.1 ∙ sym (plain_call f xs)

pub good_call : (f : List ℕ) (xs : List RawTerm) → IsKind f (functions false) → Every GoodTerm xs → GoodKind (term_kind.Call f xs)
unfolding number primary call
good_call f xs k g = alike (term_kind.Call f xs) (word f ++ document.arguments (map whole_term xs)) (call_doc f xs)
    (good_right (good_left (good_shown (good_first k (joins_leads (function_stops k) (leads_arguments (map whole_term xs))) (arguments_good xs g)) (call_same f xs))))
    (fronts_word f (kind_word f (functions false) refl k.kind))

-- ---- binders

pub record GoodBinder (b : RawBinder) : Type 0 where
  pub variable : IsKind b.variable.text variables
  pub domain : IsKind b.domain.text domains

pub binder_good : (b : RawBinder) → GoodBinder b → Good (binder false) (binder_doc b) (λ c. plain_binder c ≡ plain_binder b)
unfolding number class_of binder
binder_good b g = good_shown (good_both (good_name b.variable (variable_ends g.variable) g.variable) leads_gap (good_gap (word_then (codes "in") refl refl (good_name b.domain (domain_stops g.domain) g.domain))))
    (λ p h. ap (λ z. record { variable = z; domain = plain_name p.1 }) h.0 ∙ ap (λ z. record { variable = plain_name b.variable; domain = z }) h.1)

more_binders_good : (bs : List RawBinder) → Every GoodBinder bs → Good (more_binders false) (further (codes ",") (map binder_doc bs)) (λ cs. map plain_binder cs ≡ map plain_binder bs)
unfolding number class_of more_binders
more_binders_good [] g = good_none {f = plain_binder}
more_binders_good (b ∷ bs) g = good_more {f = plain_binder} {a = One (codes ",") ∷ Gap ∷ binder_doc b} {x = b} bs (symbol_then (stops free_comma) refl (binder_good b g.0)) (leads_further (map binder_doc bs)) (more_binders_good bs g.1)

pub binders_good : (b : RawBinder) (bs : List RawBinder) → Every GoodBinder (b ∷ bs) → Good (binders false) (binders_doc (b ∷ bs)) (λ cs. map plain_binder cs ≡ map plain_binder (b ∷ bs))
unfolding binders
binders_good b bs g = good_shown (good_both (binder_good b g.0) (leads_further (map binder_doc bs)) (more_binders_good bs g.1)) (λ p h. ap (λ z. z ∷ map plain_binder p.1) h.0 ∙ ap (λ z. plain_binder b ∷ z) h.1)

-- ---- terms with words around them

cond_same : (g x y : RawTerm) (p : TokenText × (RawTerm × (RawTerm × Option RawTerm)))
    → (p.0.text ≡ codes "if") × ((plain_term p.1.0 ≡ plain_term g) × ((plain_term p.1.1.0 ≡ plain_term x) × Given (λ z. plain_term z ≡ plain_term y) p.1.1.1)) → Same (term_kind.Cond g x y) (conditional_term p)
cond_same g x y (t, (g', (x', None))) h = absurd h.1.1.1
cond_same g x y (t, (g', (x', Some y'))) h =
    plain_cond g' x' y' ∙ ap (λ z. term_kind.Cond z (plain_term x') (plain_term y')) h.1.0 ∙ ap (λ z. term_kind.Cond (plain_term g) z (plain_term y')) h.1.1.0 ∙ ap (λ z. term_kind.Cond (plain_term g) (plain_term x) z) h.1.1.1 ∙ sym (plain_cond g x y)

pub good_cond : (g x y : RawTerm) → GoodTerm g → GoodTerm x → GoodTerm y → GoodKind (term_kind.Cond g x y)
unfolding number class_of primary enclosed body other_term
good_cond g x y p q r = alike (term_kind.Cond g x y)
    (One (codes "if") ∷ Gap ∷ (whole_term g ++ (Gap ∷ One (codes "then") ∷ Gap ∷ (whole_term x ++ (Gap ∷ One (codes "else") ∷ Gap ∷ (whole_term y ++ (Gap ∷ One (codes "endif") ∷ [])))))))
    (doc_cond g x y)
    (good_right (good_right (good_right (good_right (good_left (good_shown (word_opens {x = ConditionalTerm} (codes "if") refl refl
    (good_both (whole g p) leads_gap (good_gap (word_then (codes "then") refl refl
    (good_both (whole x q) leads_gap (good_gap (closed {a = One (codes "else") ∷ Gap ∷ whole_term y}
    (good_left (good_shown {Q = Given (λ z. plain_term z ≡ plain_term y)} (word_then (codes "else") refl refl (whole y r)) (λ z h. h))) leads_gap (good_gap (word_alone (codes "endif") refl refl))))))))) (cond_same g x y)))))))
    (fronts_byte refl)

pub record GoodCase (c : RawCase) : Type 0 where
  pub label : GoodTerm c.label
  pub value : GoodTerm c.value

case_good : (c : RawCase) → GoodCase c → Good (case_term false) (case_doc c) (λ d. plain_case d ≡ plain_case c)
unfolding number class_of case_term
case_good c g = subst (λ (d : List Item). Good (case_term false) d (λ d. plain_case d ≡ plain_case c)) (sym (doc_case c))
    (word_then (codes "case") refl refl (good_shown (good_both (whole c.label g.label) leads_gap (good_gap (symbol_then stops_colon refl (whole c.value g.value))))
    (λ p h. plain_of_case (record { label = p.0; value = p.1 }) ∙ ap (λ z. record { label = z; value = plain_term p.1 }) h.0 ∙ ap (λ z. record { label = plain_term c.label; value = z }) h.1 ∙ sym (plain_of_case c))))

leads_gaps : (ds : List (List Item)) → Leads (behind_gaps ds)
leads_gaps [] = leads_nil
leads_gaps (d ∷ ds) = leads_gap

more_cases_good : (cs : List RawCase) → Every GoodCase cs → Good (more_case_terms false) (behind_gaps (map case_doc cs)) (λ ds. map plain_case ds ≡ map plain_case cs)
unfolding more_case_terms
more_cases_good [] g = good_none {f = plain_case}
more_cases_good (c ∷ cs) g = good_more {f = plain_case} {a = Gap ∷ case_doc c} {x = c} cs (good_gap (case_good c g.0)) (leads_gaps (map case_doc cs)) (more_cases_good cs g.1)

switch_same : (x : RawTerm) (cs : List RawCase) (y : RawTerm) (p : TokenText × (RawTerm × (List RawCase × Option RawTerm)))
    → (p.0.text ≡ codes "switch") × ((plain_term p.1.0 ≡ plain_term x) × ((map plain_case p.1.1.0 ≡ map plain_case cs) × Given (λ z. plain_term z ≡ plain_term y) p.1.1.1)) → Same (term_kind.Switch x cs y) (switch_term p)
switch_same x cs y (t, (x', (cs', None))) h = absurd h.1.1.1
switch_same x cs y (t, (x', (cs', Some y'))) h =
    plain_switch x' cs' y' ∙ ap (λ z. term_kind.Switch z (map plain_case cs') (plain_term y')) h.1.0 ∙ ap (λ z. term_kind.Switch (plain_term x) z (plain_term y')) h.1.1.0 ∙ ap (λ z. term_kind.Switch (plain_term x) (map plain_case cs) z) h.1.1.1 ∙ sym (plain_switch x cs y)

pub good_switch : (x : RawTerm) (c : RawCase) (cs : List RawCase) (y : RawTerm) → GoodTerm x → Every GoodCase (c ∷ cs) → GoodTerm y → GoodKind (term_kind.Switch x (c ∷ cs) y)
unfolding number class_of primary enclosed body otherwise_term
good_switch x c cs y p q r = alike (term_kind.Switch x (c ∷ cs) y)
    (One (codes "switch") ∷ Gap ∷ (whole_term x ++ (behind_gaps (map case_doc (c ∷ cs)) ++ (Gap ∷ One (codes "otherwise") ∷ Gap ∷ (whole_term y ++ (Gap ∷ One (codes "endswitch") ∷ []))))))
    (doc_switch x (c ∷ cs) y)
    (good_right (good_right (good_right (good_right (good_right (good_left (good_shown (word_opens {x = SwitchTerm} (codes "switch") refl refl
    (good_both (whole x p) leads_gap
    (good_both {a = behind_gaps (map case_doc (c ∷ cs))} (good_shown {Q = λ ds. map plain_case ds ≡ map plain_case (c ∷ cs)} (good_both {a = Gap ∷ case_doc c} (good_gap (case_good c q.0)) (leads_gaps (map case_doc cs)) (more_cases_good cs q.1)) (λ z h. ap (λ v. v ∷ map plain_case z.1) h.0 ∙ ap (λ v. plain_case c ∷ v) h.1))
    leads_gap (closed {a = Gap ∷ One (codes "otherwise") ∷ Gap ∷ whole_term y}
    (good_gap (good_left (good_shown {Q = Given (λ z. plain_term z ≡ plain_term y)} (word_then (codes "otherwise") refl refl (whole y r)) (λ z h. h)))) leads_gap (good_gap (word_alone (codes "endswitch") refl refl)))))) (switch_same x (c ∷ cs) y))))))))
    (fronts_byte refl)

-- ---- terms with variables

pub record GoodBind (b : RawBind) : Type 0 where
  pub variable : IsKind b.variable.text variables
  pub term : GoodTerm b.term

bind_good : (b : RawBind) → GoodBind b → Good (bind false) (bind_doc b) (λ c. plain_bind c ≡ plain_bind b)
unfolding number class_of bind
bind_good b g = subst (λ (d : List Item). Good (bind false) d (λ c. plain_bind c ≡ plain_bind b)) (sym (doc_bind b))
    (good_shown (good_both (good_name b.variable (variable_ends g.variable) g.variable) leads_gap (good_gap (symbol_then (stops free_equal) refl (whole b.term g.term))))
    (λ p h. plain_of_bind (record { variable = p.0; term = p.1 }) ∙ ap (λ z. record { variable = z; term = plain_term p.1 }) h.0 ∙ ap (λ z. record { variable = plain_name b.variable; term = z }) h.1 ∙ sym (plain_of_bind b)))

more_binds_good : (bs : List RawBind) → Every GoodBind bs → Good (more_binds false) (further (codes ",") (map bind_doc bs)) (λ cs. map plain_bind cs ≡ map plain_bind bs)
unfolding number class_of more_binds
more_binds_good [] g = good_none {f = plain_bind}
more_binds_good (b ∷ bs) g = good_more {f = plain_bind} {a = One (codes ",") ∷ Gap ∷ bind_doc b} {x = b} bs (symbol_then (stops free_comma) refl (bind_good b g.0)) (leads_further (map bind_doc bs)) (more_binds_good bs g.1)

-- in parentheses
pub binds_good : (b : RawBind) (bs : List RawBind) → Every GoodBind (b ∷ bs) → Good (shown (λ p. p.1) (opening (kind_of class.Open ∷ []) Binds)) (parenthesized (commas (map bind_doc (b ∷ bs)))) (λ cs. map plain_bind cs ≡ map plain_bind (b ∷ bs))
unfolding number class_of body
binds_good b bs g =
    good_shown (free_opens {x = Binds} {P = λ cs. map plain_bind cs ≡ map plain_bind (b ∷ bs)} free_open refl (closed (good_shown {Q = λ cs. map plain_bind cs ≡ map plain_bind (b ∷ bs)} (good_both (bind_good b g.0) (leads_further (map bind_doc bs)) (more_binds_good bs g.1))
    (λ p h. ap (λ z. z ∷ map plain_bind p.1) h.0 ∙ ap (λ z. plain_bind b ∷ z) h.1)) (leads_byte refl) (symbol_alone (stops free_close) refl))) (λ p h. h.1)

let_same : (bs : List RawBind) (x : RawTerm) (p : TokenText × (List RawBind × RawTerm)) → (p.0.text ≡ codes "let") × ((map plain_bind p.1.0 ≡ map plain_bind bs) × (plain_term p.1.1 ≡ plain_term x)) → Same (term_kind.Let bs x) (let_term p)
let_same bs x (t, (bs', x')) h = plain_let bs' x' ∙ ap (λ z. term_kind.Let z (plain_term x')) h.1.0 ∙ ap (λ z. term_kind.Let (map plain_bind bs) z) h.1.1 ∙ sym (plain_let bs x)

pub good_let : (b : RawBind) (bs : List RawBind) (x : RawTerm) → Every GoodBind (b ∷ bs) → GoodTerm x → GoodKind (term_kind.Let (b ∷ bs) x)
unfolding number class_of primary enclosed body
good_let b bs x p q = alike (term_kind.Let (b ∷ bs) x)
    (One (codes "let") ∷ Gap ∷ (parenthesized (commas (map bind_doc (b ∷ bs))) ++ (Gap ∷ One (codes "in") ∷ Gap ∷ (whole_term x ++ (Gap ∷ One (codes "endlet") ∷ [])))))
    (doc_let (b ∷ bs) x)
    (good_right (good_right (good_right (good_right (good_right (good_right (good_shown (word_opens {x = LetTerm} (codes "let") refl refl
    (good_both {a = parenthesized (commas (map bind_doc (b ∷ bs)))} (binds_good b bs p) leads_gap (good_gap (word_then (codes "in") refl refl (closed (whole x q) leads_gap (good_gap (word_alone (codes "endlet") refl refl))))))) (let_same (b ∷ bs) x))))))))
    (fronts_byte refl)

-- ---- quantifiers

-- a guard behind `with`
pub guard_good : (x : RawTerm) → GoodTerm x → Good (guard false) (One (codes "with") ∷ Gap ∷ whole_term x) (Given (λ z. plain_term z ≡ plain_term x))
unfolding number class_of guard
guard_good x g = good_left (good_shown (word_then (codes "with") refl refl (whole x g)) (λ z h. h))

-- a quantifier, its binders and its guard
abbrev quantified_doc : List RawBinder → RawTerm → List Item
quantified_doc bs x = binders_doc bs ++ (Gap ∷ One (codes "with") ∷ Gap ∷ whole_term x)

quantified_good : (b : RawBinder) (bs : List RawBinder) (x : RawTerm) → Every GoodBinder (b ∷ bs) → GoodTerm x
    → Good (both (binders false) (guard false)) (quantified_doc (b ∷ bs) x) (λ p. (map plain_binder p.0 ≡ map plain_binder (b ∷ bs)) × Given (λ z. plain_term z ≡ plain_term x) p.1)
quantified_good b bs x p q = good_both {a = binders_doc (b ∷ bs)} (binders_good b bs p) leads_gap (good_gap (guard_good x q))

quant_same : (q : Quantifier) (bs : List RawBinder) (x : RawTerm) (bs' : List RawBinder) (x' : RawTerm) → map plain_binder bs' ≡ map plain_binder bs → plain_term x' ≡ plain_term x → plain_term_kind (term_kind.Quant q bs' x') ≡ plain_term_kind (term_kind.Quant q bs x)
quant_same q bs x bs' x' e f = plain_quant q bs' x' ∙ ap (λ z. term_kind.Quant q z (plain_term x')) e ∙ ap (λ z. term_kind.Quant q (map plain_binder bs) z) f ∙ sym (plain_quant q bs x)

abbrev SameKind : RawTermKind → RawTermKind → Type 0
SameKind k j = plain_term_kind j ≡ plain_term_kind k

forall_same : (bs : List RawBinder) (x : RawTerm) (p : TokenText × (List RawBinder × Option RawTerm)) → (p.0.text ≡ codes "forall") × ((map plain_binder p.1.0 ≡ map plain_binder bs) × Given (λ z. plain_term z ≡ plain_term x) p.1.1) → SameKind (term_kind.Quant quantifier.Forall bs x) (forall_term p)
forall_same bs x (t, (bs', None)) h = absurd h.1.1
forall_same bs x (t, (bs', Some x')) h = quant_same quantifier.Forall bs x bs' x' h.1.0 h.1.1

exist_same : (bs : List RawBinder) (x : RawTerm) (p : TokenText × (Bool × (List RawBinder × Option RawTerm))) → (p.0.text ≡ codes "exist") × ((p.1.0 ≡ false) × ((map plain_binder p.1.1.0 ≡ map plain_binder bs) × Given (λ z. plain_term z ≡ plain_term x) p.1.1.1)) → SameKind (term_kind.Quant quantifier.Exist bs x) (exist_term p)
exist_same bs x (t, (u, (bs', None))) h = absurd h.1.1.1
exist_same bs x (t, (true, (bs', Some x'))) h = absurd (cc (h.1.0))
exist_same bs x (t, (false, (bs', Some x'))) h = quant_same quantifier.Exist bs x bs' x' h.1.1.0 h.1.1.1

unique_same : (bs : List RawBinder) (x : RawTerm) (p : TokenText × (Bool × (List RawBinder × Option RawTerm))) → (p.0.text ≡ codes "exist") × ((p.1.0 ≡ true) × ((map plain_binder p.1.1.0 ≡ map plain_binder bs) × Given (λ z. plain_term z ≡ plain_term x) p.1.1.1)) → SameKind (term_kind.Quant quantifier.ExistUnique bs x) (exist_term p)
unique_same bs x (t, (u, (bs', None))) h = absurd h.1.1.1
unique_same bs x (t, (false, (bs', Some x'))) h = absurd (cc (h.1.0))
unique_same bs x (t, (true, (bs', Some x'))) h = quant_same quantifier.ExistUnique bs x bs' x' h.1.1.0 h.1.1.1

quantifier_good : (q : Quantifier) (b : RawBinder) (bs : List RawBinder) (x : RawTerm) → Every GoodBinder (b ∷ bs) → GoodTerm x
    → Good (quantifier_term false) (quantifier_doc q ++ (Gap ∷ quantified_doc (b ∷ bs) x)) (SameKind (term_kind.Quant q (b ∷ bs) x))
unfolding number class_of quantifier_term body unique
quantifier_good quantifier.Forall b bs x p q = good_left (good_shown (word_opens {x = ForallTerm} (codes "forall") refl refl (quantified_good b bs x p q)) (forall_same (b ∷ bs) x))
quantifier_good quantifier.Exist b bs x p q =
    good_right (good_shown (good_opening {x = ExistTerm} (is_kind refl) (joins_leads (word_stops (codes "exist") refl) leads_gap) (good_both {a = []} (good_right (good_nothing {P = λ z. z ≡ false} refl)) leads_gap (good_gap (quantified_good b bs x p q)))) (exist_same (b ∷ bs) x))
quantifier_good quantifier.ExistUnique b bs x p q =
    good_right (good_shown (word_opens {x = ExistTerm} (codes "exist") refl refl (good_both {a = One (codes "unique") ∷ []} (good_left (good_shown {Q = λ z. z ≡ true} (word_alone (codes "unique") refl refl) (λ t e. refl))) leads_gap (good_gap (quantified_good b bs x p q)))) (unique_same (b ∷ bs) x))

-- a group with a quantifier
abbrev quantifies : RawTermKind → Grouping → Type 0
quantifies k (Quantified j) = SameKind k j
quantifies k (Plain x) = ⊥

quantified_same : (k : RawTermKind) (p : TokenText × Grouping) → (p.0.text ≡ codes "(") × quantifies k p.1 → Same k (grouped p)
quantified_same k (t, Quantified q) h = h.1
quantified_same k (t, Plain x) h = absurd h.1

pub good_quant : (q : Quantifier) (b : RawBinder) (bs : List RawBinder) (x : RawTerm) → Every GoodBinder (b ∷ bs) → GoodTerm x → GoodKind (term_kind.Quant q (b ∷ bs) x)
unfolding number class_of primary enclosed body group
good_quant q b bs x p r = alike (term_kind.Quant q (b ∷ bs) x)
    (parenthesized (quantifier_doc q ++ (Gap ∷ quantified_doc (b ∷ bs) x)))
    (doc_quant q (b ∷ bs) x)
    (good_right (good_right (good_right (good_left (good_shown (free_opens {x = Grouped} free_open refl (closed (good_left (good_shown {Q = quantifies (term_kind.Quant q (b ∷ bs) x)} (quantifier_good q b bs x p r) (λ j h. h))) (leads_byte refl) (symbol_alone (stops free_close) refl))) (quantified_same (term_kind.Quant q (b ∷ bs) x)))))))
    (fronts_byte refl)
