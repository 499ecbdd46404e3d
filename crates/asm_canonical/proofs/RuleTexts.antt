-- The text of a rule, by its variants, as what stands behind a text.
use Rattle.std.proofs.Common.{suc, length, drop, ◌<◌, get_or, drop-cons, add-one, ◌≡◌, ℕ, ◌+◌, List, [], ◌∷◌, ◌++◌, refl, ap, ◌∙◌, append_assoc, append-nil}
use Rattle.std.specs.Prelude.{map, codes}
use Rattle.asm_tree.specs.declared.term.RawBinder.{RawBinder}
use Rattle.asm_tree.specs.declared.term.RawBind.{RawBind}
use Rattle.asm_tree.specs.declared.term.RawTerm.{RawTerm}
use Rattle.asm_tree.specs.declared.rule.RawRule.{RawRule}
use Rattle.asm_tree.specs.declared.rule.RawRuleKind.TheVariants as rule_kind
use Rattle.asm_tree.specs.declared.rule.RawRuleCase.{RawRuleCase}
use Rattle.asm_canonical.specs.Document.{Item, Gap, Line, One, Doc, text_in, commas, arguments, lines}
use Rattle.asm_canonical.specs.Pieces.{line_text, quantified_text, rules_doc, cases_doc}
use Rattle.asm_canonical.specs.Terms.{whole_term, bind_doc}
use Rattle.asm_canonical.specs.Rules.{rule_doc, kind_doc, case_doc, inner}
use Rattle.asm_canonical.proofs.Texts.{text_in-append}
use Rattle.asm_canonical.proofs.RuleDocuments as documents

pub doc_rule : (r : RawRule) → rule_doc r ≡ kind_doc r.kind
doc_rule r = documents.doc_rule r

-- ---- lists

in_lines : (n : ℕ) (rs : List RawRule) → lines n (map (λ (d : Doc). d n) (map rule_doc rs)) ≡ rules_doc n rs
in_lines n [] = refl
in_lines n (r ∷ rs) = ap (λ z. Line n ∷ (rule_doc r n ++ z)) (in_lines n rs)

cases_in_lines : (n : ℕ) (cs : List RawRuleCase) → lines n (map (λ (d : Doc). d n) (map case_doc cs)) ≡ cases_doc n cs
cases_in_lines n [] = refl
cases_in_lines n (c ∷ cs) = ap (λ z. Line n ∷ (case_doc c n ++ z)) (cases_in_lines n cs)

rule_line : (n : ℕ) (r : RawRule) (d : List Item) (s : List ℕ) → s ++ text_in (Line n ∷ (rule_doc r n ++ d)) ≡ ((s ++ line_text n) ++ text_in (rule_doc r n)) ++ text_in d
rule_line n r d s = simp (text_in-append, append_assoc)

pub rules_step : (rs : List RawRule) (n i : ℕ) (d : RawRule) (s : List ℕ) → i < length rs → s ++ text_in (rules_doc n (drop i rs))
    ≡ ((s ++ line_text n) ++ text_in (rule_doc (get_or rs i d) n)) ++ text_in (rules_doc n (drop (i + 1) rs))
rules_step rs n i d s h = rw (add-one, drop-cons rs i d) (rule_line n (get_or rs i d) (rules_doc n (drop (suc i) rs)) s)

doc_of_case : (c : RawRuleCase) (n : ℕ) → case_doc c n ≡ One (codes "case") ∷ Gap ∷ (whole_term c.label ++ (Gap ∷ One (codes ":") ∷ inner n (rule_doc c.rule)))
doc_of_case c n = ap (λ (d : Doc). d n) (documents.doc_rule_case c)

case_shape : (n : ℕ) (a b d : List Item) (s : List ℕ) → s ++ text_in (Line n ∷ ((One (codes "case") ∷ Gap ∷ (a ++ (Gap ∷ One (codes ":") ∷ b))) ++ d))
    ≡ (((((s ++ line_text n) ++ codes "case ") ++ text_in a) ++ codes " :") ++ text_in b) ++ text_in d
case_shape n a b d s = simp (text_in-append, append_assoc)

case_line : (n : ℕ) (c : RawRuleCase) (d : List Item) (s : List ℕ) → s ++ text_in (Line n ∷ (case_doc c n ++ d))
    ≡ (((((s ++ line_text n) ++ codes "case ") ++ text_in (whole_term c.label)) ++ codes " :") ++ text_in (inner n (rule_doc c.rule))) ++ text_in d
case_line n c d s = ap (λ z. s ++ text_in (Line n ∷ (z ++ d))) (doc_of_case c n) ∙ case_shape n (whole_term c.label) (inner n (rule_doc c.rule)) d s

pub cases_step : (cs : List RawRuleCase) (n i : ℕ) (d : RawRuleCase) (s : List ℕ) → i < length cs → s ++ text_in (cases_doc n (drop i cs))
    ≡ (((((s ++ line_text n) ++ codes "case ") ++ text_in (whole_term (get_or cs i d).label)) ++ codes " :") ++ text_in (inner n (rule_doc (get_or cs i d).rule))) ++ text_in (cases_doc n (drop (i + 1) cs))
cases_step cs n i d s h = rw (add-one i, drop-cons cs i d) (case_line n (get_or cs i d) (cases_doc n (drop (suc i) cs)) s)

pub rules_end : (s : List ℕ) → s ++ text_in [] ≡ s
rules_end s = append-nil s

pub ruleset rule_lists = (rules_step, cases_step, rules_end)

-- ---- variants

pub text_skip : (n : ℕ) (s : List ℕ) → s ++ text_in (kind_doc rule_kind.Skip n) ≡ s ++ codes "skip"
text_skip n s = ap (λ (d : Doc). s ++ text_in (d n)) documents.doc_skip

pub text_update : (f : List ℕ) (xs : List RawTerm) (y : RawTerm) (n : ℕ) (s : List ℕ) → s ++ text_in (kind_doc (rule_kind.Update f xs y) n)
    ≡ (((s ++ f) ++ text_in (arguments (map whole_term xs))) ++ codes " := ") ++ text_in (whole_term y)
text_update f xs y n s = ap (λ (d : Doc). s ++ text_in (d n)) (documents.doc_update f xs y) ∙ simp (text_in-append, append_assoc)

pub text_par : (rs : List RawRule) (n : ℕ) (s : List ℕ) → s ++ text_in (kind_doc (rule_kind.Par rs) n)
    ≡ (((s ++ codes "par") ++ text_in (rules_doc (n + 1) rs)) ++ line_text n) ++ codes "endpar"
text_par rs n s = ap (λ (d : Doc). s ++ text_in (d n)) (documents.doc_par rs) ∙ ap (λ z. s ++ (codes "par" ++ text_in (z ++ (Line n ∷ One (codes "endpar") ∷ [])))) (in_lines (n + 1) rs) ∙ simp (text_in-append, append_assoc)

pub text_seq : (rs : List RawRule) (n : ℕ) (s : List ℕ) → s ++ text_in (kind_doc (rule_kind.Seq rs) n)
    ≡ (((s ++ codes "seq") ++ text_in (rules_doc (n + 1) rs)) ++ line_text n) ++ codes "endseq"
text_seq rs n s = ap (λ (d : Doc). s ++ text_in (d n)) (documents.doc_seq rs) ∙ ap (λ z. s ++ (codes "seq" ++ text_in (z ++ (Line n ∷ One (codes "endseq") ∷ [])))) (in_lines (n + 1) rs) ∙ simp (text_in-append, append_assoc)

pub text_if : (g : RawTerm) (p q : RawRule) (n : ℕ) (s : List ℕ) → s ++ text_in (kind_doc (rule_kind.If g p q) n)
    ≡ ((((((((s ++ codes "if ") ++ text_in (whole_term g)) ++ codes " then") ++ text_in (inner n (rule_doc p))) ++ line_text n) ++ codes "else") ++ text_in (inner n (rule_doc q))) ++ line_text n) ++ codes "endif"
text_if g p q n s = ap (λ (d : Doc). s ++ text_in (d n)) (documents.doc_if g p q) ∙ simp (text_in-append, append_assoc)

pub text_switch : (x : RawTerm) (cs : List RawRuleCase) (q : RawRule) (n : ℕ) (s : List ℕ) → s ++ text_in (kind_doc (rule_kind.Switch x cs q) n)
    ≡ (((((((s ++ codes "switch ") ++ text_in (whole_term x)) ++ text_in (cases_doc n cs)) ++ line_text n) ++ codes "otherwise") ++ text_in (inner n (rule_doc q))) ++ line_text n) ++ codes "endswitch"
text_switch x cs q n s = ap (λ (d : Doc). s ++ text_in (d n)) (documents.doc_switch x cs q)
    ∙ ap (λ z. s ++ (codes "switch " ++ text_in (whole_term x ++ (z ++ (Line n ∷ One (codes "otherwise") ∷ Line (n + 1) ∷ (rule_doc q (n + 1) ++ (Line n ∷ One (codes "endswitch") ∷ []))))))) (cases_in_lines n cs) ∙ simp (text_in-append, append_assoc)

pub text_let : (bs : List RawBind) (p : RawRule) (n : ℕ) (s : List ℕ) → s ++ text_in (kind_doc (rule_kind.Let bs p) n)
    ≡ (((((s ++ codes "let (") ++ text_in (commas (map bind_doc bs))) ++ codes ") in") ++ text_in (inner n (rule_doc p))) ++ line_text n) ++ codes "endlet"
text_let bs p n s = ap (λ (d : Doc). s ++ text_in (d n)) (documents.doc_let bs p) ∙ simp (text_in-append, append_assoc)

pub text_forall : (bs : List RawBinder) (g : RawTerm) (p : RawRule) (n : ℕ) (s : List ℕ) → s ++ text_in (kind_doc (rule_kind.Forall bs g p) n)
    ≡ (s ++ quantified_text (codes "forall ") bs g) ++ text_in (inner n (rule_doc p))
text_forall bs g p n s = ap (λ (d : Doc). s ++ text_in (d n)) (documents.doc_forall bs g p) ∙ simp (text_in-append, append_assoc)

pub text_choose : (bs : List RawBinder) (g : RawTerm) (p q : RawRule) (n : ℕ) (s : List ℕ) → s ++ text_in (kind_doc (rule_kind.Choose bs g p q) n)
    ≡ (((((s ++ quantified_text (codes "choose ") bs g) ++ []) ++ text_in (inner n (rule_doc p))) ++ line_text n) ++ codes "ifnone") ++ text_in (inner n (rule_doc q))
text_choose bs g p q n s = ap (λ (d : Doc). s ++ text_in (d n)) (documents.doc_choose bs g p q) ∙ simp (text_in-append, append_assoc, append-nil)

pub text_call : (r : List ℕ) (xs : List RawTerm) (n : ℕ) (s : List ℕ) → s ++ text_in (kind_doc (rule_kind.Call r xs) n)
    ≡ (((s ++ r) ++ codes "[") ++ text_in (commas (map whole_term xs))) ++ codes "]"
text_call r xs n s = ap (λ (d : Doc). s ++ text_in (d n)) (documents.doc_call r xs) ∙ simp (text_in-append, append_assoc)

pub ruleset texts = (text_skip, text_update, text_par, text_seq, text_if, text_switch, text_let, text_forall, text_choose, text_call)
