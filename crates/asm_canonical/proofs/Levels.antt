-- The levels of operators: what is good on a level is good on each looser one.
use Rattle.std.proofs.Common.{◌≡◌, ℕ, suc, zero, ◌+◌, ◌≤◌, inl, inr, Bool, true, false, not, ◌&&◌, ◌==◌, append_assoc, List, [], ◌∷◌, ◌++◌, None, Option, refl, ap, sym, ◌∙◌, subst, arith}
use Rattle.std.specs.Prelude.{nat_lt, codes}
use Rattle.std.proofs.lemmas.Bool.{ltb-false, ltb-true}
use Rattle.asm_grammar.proofs.Sets.{true_or_false}
use Rattle.asm_grammar.specs.Grammar.{Grammar}
use Rattle.asm_tree.specs.Words.{class_of, number}
use Rattle.asm_tree.specs.declared.term.RawTerm.{RawTerm}
use Rattle.asm_tree.specs.declared.term.RawTermKind.{RawTermKind}
use Rattle.asm_tree.specs.Language.{TokenText, Phrase, Grouping, Quantified, Plain, models, Grouped}
use Rattle.asm_tree.specs.Terms.{chained, chain_of, paired, enclosed, primary, opposite, product_tail, product, sum_tail, sum, comparison_tail, comparison, negation, conjunction_tail, conjunction, disjunction_tail, disjunction, implication_tail, implication, equivalence_tail, equivalence, term, group}
use Rattle.asm_tree.specs.Rules.{body}
use Rattle.asm_canonical.specs.Document.{Item, One, text_in, parenthesized, parenthesized_if}
use Rattle.asm_canonical.specs.Terms.{term_doc, kind_doc, whole_term}
use Rattle.asm_canonical.specs.Placeless.{plain_term, plain_term_kind}
use Rattle.asm_canonical.proofs.TermDocuments.{doc_term}
use Rattle.asm_canonical.proofs.PlainTerms.{plain_of}
use Rattle.std.proofs.lemmas.Bool.Decides.{nat_tests}
use Rattle.asm_lex.specs.Cut.{is_letter, is_digit, is_word, is_number, is_variable}
use Rattle.asm_canonical.proofs.Texts.{text_in-append}
use Rattle.asm_canonical.proofs.Ends.{breaks, begins_not, no_greater, free_open, free_close, stops}
use Rattle.asm_canonical.proofs.Cutting.{Leads, leads_byte}
use Rattle.asm_canonical.proofs.Good.{Good, good_nothing, good_left, good_right, good_shown, good_alone}
use Rattle.asm_canonical.proofs.Phrases.{closed, free_opens, symbol_alone}

-- the terms of a level
abbrev pub at : ℕ → Grammar models Phrase
at zero = equivalence false
at (suc zero) = equivalence false
at (suc (suc zero)) = implication false
at (suc (suc (suc zero))) = disjunction false
at (suc (suc (suc (suc zero)))) = conjunction false
at (suc (suc (suc (suc (suc zero))))) = negation false
at (suc (suc (suc (suc (suc (suc zero)))))) = comparison false
at (suc (suc (suc (suc (suc (suc (suc zero))))))) = sum false
at (suc (suc (suc (suc (suc (suc (suc (suc zero)))))))) = product false
at (suc (suc (suc (suc (suc (suc (suc (suc (suc zero))))))))) = opposite false
at (suc (suc (suc (suc (suc (suc (suc (suc (suc (suc n)))))))))) = primary false

-- the same kind but for places
abbrev pub Same : RawTermKind → Phrase → Type 0
Same k p = plain_term_kind p.term.kind ≡ plain_term_kind k

-- the text doesn't begin with `>`, with which `-` would go on
pub record Fronts (d : List Item) : Type 0 where
  pub front : (r : List ℕ) → breaks r ≡ true → begins_not (λ c. c == 62) (text_in d ++ r) ≡ true

pub record GoodKind (k : RawTermKind) : Type 0 where
  pub good : (l : ℕ) → Good (at l) (kind_doc k l) (Same k)
  pub fronts : (l : ℕ) → Fronts (kind_doc k l)

breaks_front : (r : List ℕ) → breaks r ≡ true → begins_not (λ c. c == 62) r ≡ true
breaks_front [] h = refl
breaks_front (c ∷ r) h = ap not (no_greater c r h)

pub fronts_append : {a b : List Item} → Fronts a → Leads b → Fronts (a ++ b)
fronts_append {a} {b} f l = record {
  front = λ r h. ap (begins_not (λ c. c == 62)) (ap (λ z. z ++ r) (text_in-append a b) ∙ append_assoc (text_in a) (text_in b) r) ∙ f.front (text_in b ++ r) (l.breaking r h);
}

pub fronts_byte : {b : ℕ} {w : List ℕ} {d : List Item} → (b == 62) ≡ false → Fronts (One (b ∷ w) ∷ d)
fronts_byte {b} {w} {d} e = record { front = λ r h. ap not e }

letter_no_greater : (b : ℕ) → is_letter b ≡ true → (b == 62) ≡ false
letter_no_greater b h = grind (arith, nat_tests)

digit_no_greater : (b : ℕ) → is_digit b ≡ true → (b == 62) ≡ false
digit_no_greater b h = grind (arith, nat_tests)

dollar_no_greater : (b : ℕ) → (b == 36) ≡ true → (b == 62) ≡ false
dollar_no_greater b h = grind (arith, nat_tests)

front_of : (x y : Bool) → (x && y) ≡ true → x ≡ true
front_of true y h = refl
front_of false y h = absurd (cc)

pub fronts_word : {d : List Item} (w : List ℕ) → is_word w ≡ true → Fronts (One w ∷ d)
fronts_word {d} [] h = absurd (cc)
fronts_word {d} (b ∷ w) h = fronts_byte (letter_no_greater b (front_of (is_letter b) _ h))

pub fronts_number : {d : List Item} (w : List ℕ) → is_number w ≡ true → Fronts (One w ∷ d)
fronts_number {d} [] h = absurd (cc)
fronts_number {d} (b ∷ w) h = fronts_byte (digit_no_greater b (front_of (is_digit b) _ h))

pub fronts_variable : {d : List Item} (w : List ℕ) → is_variable w ≡ true → Fronts (One w ∷ d)
fronts_variable {d} [] h = absurd (cc)
fronts_variable {d} (b ∷ w) h = fronts_byte (dollar_no_greater b (front_of (b == 36) _ h))

pub fronts_if : {d : List Item} (b : Bool) → Fronts d → Fronts (parenthesized_if b d)
fronts_if {d} true f = fronts_byte refl
fronts_if {d} false f = f

at_top : (l : ℕ) → at (10 + l) ≡ primary false
at_top l = let e : 10 + l ≡ suc (suc (suc (suc (suc (suc (suc (suc (suc (suc l))))))))) = omega arith in rw e refl

module _ (k : RawTermKind) where
  alone_chain : (x : Phrase × List (TokenText × Phrase)) → Same k x.0 × (x.1 ≡ []) → Same k (chain_of x)
  alone_chain x h = subst (λ z. Same k (chained x.0 z)) (sym h.1) h.0

  alone_pair : (x : Phrase × Option (TokenText × Phrase)) → Same k x.0 × (x.1 ≡ None) → Same k (paired x)
  alone_pair x h = subst (λ (z : Option (TokenText × Phrase)). Same k (paired (x.0, z))) (sym h.1) h.0

  -- what a level has, the next looser one has
  loosened : {d : List Item} (l : ℕ) → Good (at (suc l)) d (Same k) → Good (at l) d (Same k)
  unfolding opposite product product_tail sum sum_tail comparison comparison_tail negation conjunction conjunction_tail disjunction disjunction_tail implication implication_tail equivalence equivalence_tail
  loosened zero p = p
  loosened (suc zero) p = good_alone p (good_right (good_nothing {P = λ z. z ≡ []} refl)) alone_chain
  loosened (suc (suc zero)) p = good_alone p (good_right (good_nothing {P = λ z. z ≡ None} refl)) alone_pair
  loosened (suc (suc (suc zero))) p = good_alone p (good_right (good_nothing {P = λ z. z ≡ []} refl)) alone_chain
  loosened (suc (suc (suc (suc zero)))) p = good_alone p (good_right (good_nothing {P = λ z. z ≡ []} refl)) alone_chain
  loosened (suc (suc (suc (suc (suc zero))))) p = good_right p
  loosened (suc (suc (suc (suc (suc (suc zero)))))) p = good_alone p (good_right (good_nothing {P = λ z. z ≡ None} refl)) alone_pair
  loosened (suc (suc (suc (suc (suc (suc (suc zero))))))) p = good_alone p (good_right (good_nothing {P = λ z. z ≡ []} refl)) alone_chain
  loosened (suc (suc (suc (suc (suc (suc (suc (suc zero)))))))) p = good_alone p (good_right (good_nothing {P = λ z. z ≡ []} refl)) alone_chain
  loosened (suc (suc (suc (suc (suc (suc (suc (suc (suc zero))))))))) p = good_right p
  loosened (suc (suc (suc (suc (suc (suc (suc (suc (suc (suc n)))))))))) p = p

  -- and so each looser one
  pub lower : {d : List Item} (m l : ℕ) → l ≤ m → Good (at m) d (Same k) → Good (at l) d (Same k)
  lower {d} zero l h p = let e : zero ≡ l = omega arith in subst (λ (j : ℕ). Good (at j) d (Same k)) e p
  lower {d} (suc m) l h p = elim (true_or_false (nat_lt m l)) [
    | inl e ↦ (let f : suc m ≡ l = omega (arith, ltb-true m l e) in subst (λ (j : ℕ). Good (at j) d (Same k)) f p)
    | inr e ↦ lower m l (ltb-false m l e) (loosened m p)
  ]

  pub looser : {d : List Item} (l : ℕ) → Good (primary false) d (Same k) → Good (at l) d (Same k)
  looser {d} l p = lower (10 + l) l (omega arith) (subst (λ (g : Grammar models Phrase). Good g d (Same k)) (sym (at_top l)) p)

-- a group with a term
abbrev groups : RawTermKind → Grouping → Type 0
groups k (Quantified q) = ⊥
groups k (Plain x) = plain_term_kind x.kind ≡ plain_term_kind k

regrouped : (k : RawTermKind) (p : TokenText × Grouping) → (p.0.text ≡ codes "(") × groups k p.1 → Same k (Rattle.asm_tree.specs.Terms.grouped p)
regrouped k (t, Quantified q) h = absurd h.1
regrouped k (t, Plain x) h = h.1

pub in_parentheses : {d : List Item} (k : RawTermKind) → Good (equivalence false) d (Same k) → Good (primary false) (parenthesized d) (Same k)
unfolding number class_of primary enclosed body group term
in_parentheses {d} k p =
    good_right (good_right (good_right (good_left (good_shown (free_opens {x = Grouped} free_open refl (closed (good_right (good_shown {P = λ x. plain_term_kind x.kind ≡ plain_term_kind k} {Q = groups k} (good_shown p (λ x h. h)) (λ x h. h))) (leads_byte refl) (symbol_alone (stops free_close) refl))) (regrouped k)))))

-- an operation of a level, where operators of another level need no parentheses
pub operation : {d : List Item} (k : RawTermKind) (m l : ℕ) → Good (at m) d (Same k) → Good (at l) (parenthesized_if (nat_lt m l) d) (Same k)
operation {d} k m l p = go (nat_lt m l) refl
  where
    go : (b : Bool) → nat_lt m l ≡ b → Good (at l) (parenthesized_if b d) (Same k)
    go true e = looser k l (in_parentheses k (lower k m 0 (omega arith) p))
    go false e = lower k m l (ltb-false m l e) p

-- ---- children

pub plain_from : (x y : RawTerm) → plain_term_kind y.kind ≡ plain_term_kind x.kind → plain_term y ≡ plain_term x
plain_from x y e = plain_of y ∙ ap (λ z. record { at = 0; first = []; kind = z }) e ∙ sym (plain_of x)

pub child : (x : RawTerm) → GoodKind x.kind → (l : ℕ) → Good (at l) (term_doc x l) (Same x.kind)
child x g l = subst (λ (d : ℕ → List Item). Good (at l) (d l) (Same x.kind)) (sym (doc_term x)) (g.good l)

pub child_fronts : (x : RawTerm) → GoodKind x.kind → (l : ℕ) → Fronts (term_doc x l)
child_fronts x g l = subst (λ (d : ℕ → List Item). Fronts (d l)) (sym (doc_term x)) (g.fronts l)

pub whole : (x : RawTerm) → GoodKind x.kind → Good (term false) (whole_term x) (λ y. plain_term y ≡ plain_term x)
unfolding term
whole x g = good_shown (child x g 1) (λ p h. plain_from x p.term h)
