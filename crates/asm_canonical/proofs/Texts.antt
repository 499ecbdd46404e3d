-- The text of a term, by its variants, as what stands behind a text.
use Rattle.std.proofs.Common.{length, drop, ◌<◌, get_or, drop-cons, add-one, ◌==◌, ◌≡◌, ℕ, suc, zero, ◌+◌, ◌*◌, Bool, true, false, List, [], ◌∷◌, ◌++◌, refl, ap, sym, ◌∙◌, append_assoc, append-nil, arith}
use Rattle.std.specs.Prelude.{map, nat_lt, codes, replicate}
use Rattle.std.proofs.lemmas.Bool.Decides.{nat_tests}
use Rattle.asm_tree.specs.declared.operator.Op.{Op}
use Rattle.asm_tree.specs.declared.operator.UnaryOp.{UnaryOp}
use Rattle.asm_tree.specs.declared.operator.UnaryOp.TheVariants as unary
use Rattle.std.specs.Fmt.{decimal}
use Rattle.asm_tree.specs.declared.operator.Quantifier.{Quantifier}
use Rattle.asm_tree.specs.declared.term.RawBinder.{RawBinder}
use Rattle.asm_tree.specs.declared.term.RawBind.{RawBind}
use Rattle.asm_tree.specs.declared.term.RawCase.{RawCase}
use Rattle.asm_tree.specs.declared.term.RawTerm.{RawTerm}
use Rattle.asm_tree.specs.declared.term.RawTermKind.TheVariants as term_kind
use Rattle.asm_canonical.specs.Document.{Item, Gap, One, Doc, item_text, text_in, word, spaced, behind_gaps, further, commas, arguments, parenthesized_if}
use Rattle.asm_canonical.specs.Pieces.{line_text, mark_text, separator_text, listed, before_both, middle, behind_both, before_one, operand_level, behind_one}
use Rattle.asm_canonical.specs.Terms.{term_doc, whole_term, kind_doc, case_doc, bind_doc, binder_doc, binders_doc, quantifier_words, truth, level, left_level, right_level, sign, is_infix, infixed, prefixed, binary, unary_operation}
use Rattle.asm_canonical.proofs.TermDocuments as documents

pub text_in-append : (a b : List Item) → text_in (a ++ b) ≡ text_in a ++ text_in b
text_in-append [] b = refl
text_in-append (i ∷ a) b = ap (λ z. item_text i ++ z) (text_in-append a b) ∙ sym (append_assoc (item_text i) (text_in a) (text_in b))

replicate-snoc : (n b : ℕ) → replicate (suc n) b ≡ replicate n b ++ b ∷ []
replicate-snoc zero b = refl
replicate-snoc (suc n) b = ap (λ z. b ∷ z) (replicate-snoc n b)

pub two_more : (n : ℕ) → line_text (n + 1) ≡ line_text n ++ codes "  "
two_more n =
    let e : 2 * (n + 1) ≡ suc (suc (2 * n)) = omega arith in
    rw e (ap (λ z. 10 ∷ z) (replicate-snoc (suc (2 * n)) 32 ∙ ap (λ z. z ++ 32 ∷ []) (replicate-snoc (2 * n) 32) ∙ append_assoc (replicate (2 * n) 32) (32 ∷ []) (32 ∷ [])))

pub doc_term : (t : RawTerm) → term_doc t ≡ kind_doc t.kind
doc_term t = documents.doc_term t

-- ---- lists with commas

not_zero : (n : ℕ) → (suc n == 0) ≡ false
not_zero n = grind (arith, nat_tests)

module _ {X : Type 0} (f : X → List Item) where
  pub listed_next : (n : ℕ) (x : X) (xs : List X) (s : List ℕ) → s ++ listed n (map f (x ∷ xs)) ≡ ((s ++ separator_text n) ++ text_in (f x)) ++ listed (suc n) (map f xs)
  listed_next zero x xs s = rw (text_in-append (f x) (further (codes ",") (map f xs)), append-nil s) (sym (append_assoc s (text_in (f x)) (text_in (further (codes ",") (map f xs)))))
  listed_next (suc n) x xs s = rw (not_zero n, not_zero (suc n), text_in-append (f x) (further (codes ",") (map f xs))) (simp append_assoc)

  pub listed_end : (xs : List X) (s : List ℕ) → s ++ listed (length xs) [] ≡ s
  listed_end [] s = append-nil s
  listed_end (x ∷ xs) s = rw (not_zero (length xs)) (append-nil s)

  pub listed_step : (xs : List X) (n : ℕ) (d : X) (s : List ℕ) → n < length xs → s ++ listed n (map f (drop n xs)) ≡ ((s ++ separator_text n) ++ text_in (f (get_or xs n d))) ++ listed (n + 1) (map f (drop (n + 1) xs))
  listed_step xs n d s h = rw (add-one, drop-cons xs n d) (listed_next n (get_or xs n d) (drop (suc n) xs) s)

  pub arguments_text : (xs : List X) (s : List ℕ) → (length xs == 0) ≡ false → s ++ text_in (arguments (map f xs)) ≡ ((s ++ codes "(") ++ text_in (commas (map f xs))) ++ codes ")"
  arguments_text [] s h = absurd (cc)
  arguments_text (x ∷ xs) s h = simp (text_in-append, append_assoc)

  pub no_arguments : (xs : List X) (s : List ℕ) → (length xs == 0) ≡ true → s ++ text_in (arguments (map f xs)) ≡ s
  no_arguments [] s h = append-nil s
  no_arguments (x ∷ xs) s h = let e : (suc (length xs) == 0) ≡ false = not_zero (length xs) in absurd (cc)

-- ---- terms

pub terms_step : (xs : List RawTerm) (n : ℕ) (d : RawTerm) (s : List ℕ) → n < length xs → s ++ listed n (map whole_term (drop n xs)) ≡ ((s ++ separator_text n) ++ text_in (whole_term (get_or xs n d))) ++ listed (n + 1) (map whole_term (drop (n + 1) xs))
terms_step = listed_step whole_term

pub terms_end : (xs : List RawTerm) (s : List ℕ) → s ++ listed (length xs) [] ≡ s
terms_end = listed_end whole_term

pub terms_arguments : (xs : List RawTerm) (s : List ℕ) → (length xs == 0) ≡ false → s ++ text_in (arguments (map whole_term xs)) ≡ ((s ++ codes "(") ++ text_in (commas (map whole_term xs))) ++ codes ")"
terms_arguments = arguments_text whole_term

pub terms_none : (xs : List RawTerm) (s : List ℕ) → (length xs == 0) ≡ true → s ++ text_in (arguments (map whole_term xs)) ≡ s
terms_none = no_arguments whole_term

doc_of_case : (c : RawCase) → case_doc c ≡ spaced (word (codes "case") ∷ whole_term c.label ∷ word (codes ":") ∷ whole_term c.value ∷ [])
doc_of_case c = documents.doc_case c

doc_of_bind : (b : RawBind) → bind_doc b ≡ One b.variable.text ∷ Gap ∷ One (codes "=") ∷ Gap ∷ whole_term b.term
doc_of_bind b = documents.doc_bind b

case_text : (c : RawCase) (s : List ℕ) (d : List Item) → s ++ text_in (Gap ∷ (case_doc c ++ d)) ≡ ((((s ++ codes " case ") ++ text_in (whole_term c.label)) ++ codes " : ") ++ text_in (whole_term c.value)) ++ text_in d
case_text c s d = rw doc_of_case (simp (text_in-append, append_assoc))

pub cases_step : (cs : List RawCase) (n : ℕ) (d : RawCase) (s : List ℕ) → n < length cs → s ++ text_in (behind_gaps (map case_doc (drop n cs)))
    ≡ ((((s ++ codes " case ") ++ text_in (whole_term (get_or cs n d).label)) ++ codes " : ") ++ text_in (whole_term (get_or cs n d).value)) ++ text_in (behind_gaps (map case_doc (drop (n + 1) cs)))
cases_step cs n d s h = rw (add-one, drop-cons cs n d) (case_text (get_or cs n d) s (behind_gaps (map case_doc (drop (suc n) cs))))

pub cases_end : (s : List ℕ) → s ++ text_in [] ≡ s
cases_end s = append-nil s

bind_text : (b : RawBind) (s : List ℕ) → s ++ text_in (bind_doc b) ≡ ((s ++ b.variable.text) ++ codes " = ") ++ text_in (whole_term b.term)
bind_text b s = rw doc_of_bind (simp append_assoc)

pub binds_step : (bs : List RawBind) (n : ℕ) (d : RawBind) (s : List ℕ) → n < length bs → s ++ listed n (map bind_doc (drop n bs))
    ≡ ((((s ++ separator_text n) ++ (get_or bs n d).variable.text) ++ codes " = ") ++ text_in (whole_term (get_or bs n d).term)) ++ listed (n + 1) (map bind_doc (drop (n + 1) bs))
binds_step bs n d s h = listed_step bind_doc bs n d s h ∙ ap (λ z. z ++ listed (n + 1) (map bind_doc (drop (n + 1) bs))) (bind_text (get_or bs n d) (s ++ separator_text n))

binder_text : (b : RawBinder) (s : List ℕ) → s ++ text_in (binder_doc b) ≡ ((s ++ b.variable.text) ++ codes " in ") ++ b.domain.text
binder_text b s = simp (append_assoc, append-nil)

pub binders_step : (bs : List RawBinder) (n : ℕ) (d : RawBinder) (s : List ℕ) → n < length bs → s ++ listed n (map binder_doc (drop n bs))
    ≡ ((((s ++ separator_text n) ++ (get_or bs n d).variable.text) ++ codes " in ") ++ (get_or bs n d).domain.text) ++ listed (n + 1) (map binder_doc (drop (n + 1) bs))
binders_step bs n d s h = listed_step binder_doc bs n d s h ∙ ap (λ z. z ++ listed (n + 1) (map binder_doc (drop (n + 1) bs))) (binder_text (get_or bs n d) (s ++ separator_text n))

pub binders_end : (bs : List RawBinder) (s : List ℕ) → s ++ listed (length bs) [] ≡ s
binders_end = listed_end binder_doc

pub binds_end : (bs : List RawBind) (s : List ℕ) → s ++ listed (length bs) [] ≡ s
binds_end = listed_end bind_doc

pub ruleset term_lists = (terms_step, terms_end, terms_arguments, terms_none, cases_step, cases_end, binds_step, binds_end)

pub ruleset binder_lists = (binders_step, binders_end)

at_whole : (xs : List RawTerm) → map (λ (d : Doc). d 1) (map term_doc xs) ≡ map whole_term xs
at_whole [] = refl
at_whole (x ∷ xs) = ap (λ z. whole_term x ∷ z) (at_whole xs)

pub text_number : (n l : ℕ) (s : List ℕ) → s ++ text_in (kind_doc (term_kind.Number n) l) ≡ s ++ decimal n
text_number n l s = ap (λ (d : Doc). s ++ text_in (d l)) (documents.doc_number n) ∙ ap (λ z. s ++ z) (append-nil (decimal n))

pub text_truth : (b : Bool) (l : ℕ) (s : List ℕ) → s ++ text_in (kind_doc (term_kind.Truth b) l) ≡ s ++ truth b
text_truth b l s = ap (λ (d : Doc). s ++ text_in (d l)) (documents.doc_truth b) ∙ ap (λ z. s ++ z) (append-nil (truth b))

pub text_undef : (l : ℕ) (s : List ℕ) → s ++ text_in (kind_doc term_kind.Undef l) ≡ s ++ codes "undef"
text_undef l s = ap (λ (d : Doc). s ++ text_in (d l)) documents.doc_undef

pub text_variable : (v : List ℕ) (l : ℕ) (s : List ℕ) → s ++ text_in (kind_doc (term_kind.Variable v) l) ≡ s ++ v
text_variable v l s = ap (λ (d : Doc). s ++ text_in (d l)) (documents.doc_variable v) ∙ ap (λ z. s ++ z) (append-nil v)

pub text_element : (v : List ℕ) (l : ℕ) (s : List ℕ) → s ++ text_in (kind_doc (term_kind.Element v) l) ≡ s ++ v
text_element v l s = ap (λ (d : Doc). s ++ text_in (d l)) (documents.doc_element v) ∙ ap (λ z. s ++ z) (append-nil v)

pub text_call : (f : List ℕ) (xs : List RawTerm) (l : ℕ) (s : List ℕ) → s ++ text_in (kind_doc (term_kind.Call f xs) l) ≡ (s ++ f) ++ text_in (arguments (map whole_term xs))
text_call f xs l s = ap (λ (d : Doc). s ++ text_in (d l)) (documents.doc_call f xs) ∙ ap (λ z. s ++ (f ++ text_in (arguments z))) (at_whole xs) ∙ sym (append_assoc s f (text_in (arguments (map whole_term xs))))

-- ---- operators

marked_text : (w : Bool) (a : List Item) (front : List ℕ) (s : List ℕ) → s ++ text_in (parenthesized_if w a) ≡ ((s ++ mark_text w (codes "(")) ++ text_in a) ++ mark_text w (codes ")")
marked_text true a front s = simp (text_in-append, append_assoc)
marked_text false a front s = simp (append_assoc, append-nil)

unary_text : (o : UnaryOp) (x : Doc) (l : ℕ) (s : List ℕ) → s ++ text_in (unary_operation o x l) ≡ ((s ++ before_one o l) ++ text_in (x (operand_level o))) ++ behind_one o l
unary_text unary.Not x l s = marked_text (nat_lt 5 l) (One (codes "not") ∷ Gap ∷ x 5) [] s ∙ simp append_assoc
unary_text unary.Negate x l s = marked_text (nat_lt 9 l) (One (codes "-") ∷ x 9) [] s ∙ simp append_assoc
unary_text unary.Abs x l s = simp (text_in-append, append_assoc, append-nil)
unary_text unary.IsDefined x l s = simp (text_in-append, append_assoc, append-nil)
unary_text unary.IsUndefined x l s = simp (text_in-append, append_assoc, append-nil)

pub text_unary : (o : UnaryOp) (x : RawTerm) (l : ℕ) (s : List ℕ) → s ++ text_in (kind_doc (term_kind.Unary o x) l) ≡ ((s ++ before_one o l) ++ text_in (term_doc x (operand_level o))) ++ behind_one o l
text_unary o x l s = ap (λ (d : Doc). s ++ text_in (d l)) (documents.doc_unary o x) ∙ unary_text o (term_doc x) l s

infixed_text : (o : Op) (x y : Doc) (l : ℕ) (s : List ℕ) → s ++ text_in (infixed o x y l)
    ≡ ((((s ++ mark_text (nat_lt (level o) l) (codes "(")) ++ text_in (x (left_level o))) ++ (codes " " ++ (sign o ++ codes " "))) ++ text_in (y (right_level o))) ++ mark_text (nat_lt (level o) l) (codes ")")
infixed_text o x y l s = marked_text (nat_lt (level o) l) (x (left_level o) ++ (Gap ∷ One (sign o) ∷ Gap ∷ y (right_level o))) [] s ∙ simp (text_in-append, append_assoc)

prefixed_text : (o : Op) (x y : Doc) (s : List ℕ) → s ++ text_in (prefixed o x y)
    ≡ ((((s ++ (sign o ++ codes "(")) ++ text_in (x (left_level o))) ++ codes ", ") ++ text_in (y (right_level o))) ++ codes ")"
prefixed_text o x y s = simp (text_in-append, append_assoc, append-nil)

binary_text : (o : Op) (x y : Doc) (l : ℕ) (b : Bool) → is_infix o ≡ b → (s : List ℕ) → s ++ text_in (binary o x y l)
    ≡ ((((s ++ before_both o l) ++ text_in (x (left_level o))) ++ middle o) ++ text_in (y (right_level o))) ++ behind_both o l
binary_text o x y l true e s = rw e (infixed_text o x y l s)
binary_text o x y l false e s = rw e (prefixed_text o x y s)

pub text_binary : (o : Op) (x y : RawTerm) (l : ℕ) (s : List ℕ) → s ++ text_in (kind_doc (term_kind.Binary o x y) l)
    ≡ ((((s ++ before_both o l) ++ text_in (term_doc x (left_level o))) ++ middle o) ++ text_in (term_doc y (right_level o))) ++ behind_both o l
text_binary o x y l s = ap (λ (d : Doc). s ++ text_in (d l)) (documents.doc_binary o x y) ∙ binary_text o (term_doc x) (term_doc y) l (is_infix o) refl s

-- ---- terms with words around them

pub text_cond : (g x y : RawTerm) (l : ℕ) (s : List ℕ) → s ++ text_in (kind_doc (term_kind.Cond g x y) l)
    ≡ ((((((s ++ codes "if ") ++ text_in (whole_term g)) ++ codes " then ") ++ text_in (whole_term x)) ++ codes " else ") ++ text_in (whole_term y)) ++ codes " endif"
text_cond g x y l s = ap (λ (d : Doc). s ++ text_in (d l)) (documents.doc_cond g x y) ∙ simp (text_in-append, append_assoc)

pub text_switch : (x : RawTerm) (cs : List RawCase) (y : RawTerm) (l : ℕ) (s : List ℕ) → s ++ text_in (kind_doc (term_kind.Switch x cs y) l)
    ≡ (((((s ++ codes "switch ") ++ text_in (whole_term x)) ++ text_in (behind_gaps (map case_doc cs))) ++ codes " otherwise ") ++ text_in (whole_term y)) ++ codes " endswitch"
text_switch x cs y l s = ap (λ (d : Doc). s ++ text_in (d l)) (documents.doc_switch x cs y) ∙ simp (text_in-append, append_assoc)

pub text_let : (bs : List RawBind) (x : RawTerm) (l : ℕ) (s : List ℕ) → s ++ text_in (kind_doc (term_kind.Let bs x) l)
    ≡ ((((s ++ codes "let (") ++ text_in (commas (map bind_doc bs))) ++ codes ") in ") ++ text_in (whole_term x)) ++ codes " endlet"
text_let bs x l s = ap (λ (d : Doc). s ++ text_in (d l)) (documents.doc_let bs x) ∙ simp (text_in-append, append_assoc)

pub text_quant : (q : Quantifier) (bs : List RawBinder) (x : RawTerm) (l : ℕ) (s : List ℕ) → s ++ text_in (kind_doc (term_kind.Quant q bs x) l)
    ≡ ((((((s ++ codes "(") ++ quantifier_words q) ++ codes " ") ++ text_in (binders_doc bs)) ++ codes " with ") ++ text_in (whole_term x)) ++ codes ")"
text_quant q bs x l s = ap (λ (d : Doc). s ++ text_in (d l)) (documents.doc_quant q bs x) ∙ simp (text_in-append, append_assoc)

pub ruleset texts = (text_number, text_truth, text_undef, text_variable, text_element, text_call, text_unary, text_binary, text_cond, text_switch, text_let, text_quant)
