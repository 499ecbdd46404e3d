-- Short forms of documents that are good.
use Rattle.std.proofs.Common.{◌≡◌, ℕ, suc, true, false, List, [], ◌∷◌, ◌++◌, Option, Some, None, refl}
use Rattle.asm_grammar.specs.Grammar.{Grammar, word, both, shown, opening, has}
use Rattle.asm_tree.specs.Words.{class_of, number}
use Rattle.asm_tree.specs.Language.{TokenText, models, Inside, Value, functions, rules, invariants, elements, domains, variables, words, free_words}
use Rattle.asm_tree.specs.Rules.{body}
use Rattle.asm_lex.specs.Cut.{is_word}
use Rattle.asm_canonical.specs.Document.{Item, Gap, Line, One}
use Rattle.asm_canonical.proofs.Ends.{Stops, Free, word_stops, variable_stops}
use Rattle.asm_canonical.proofs.Classes.{kind_word, kind_variable}
use Rattle.asm_canonical.proofs.Cutting.{Leads, joins_leads, joins_free, leads_gap, leads_line}
use Rattle.asm_canonical.proofs.Good.{Good, IsKind, good_word, good_after, good_gap, good_line, good_both, good_shown, good_opening}

pub is_kind : {w ks : List ℕ} → has (suc (number (class_of w))) ks ≡ true → IsKind w ks
is_kind {w} {ks} h = record { kind = h }

-- some value with the property
abbrev pub Given : {A : Type 0} → (A → Type 0) → Option A → Type 0
Given P None = ⊥
Given P (Some x) = P x

-- ---- words that are names

pub function_stops : {w : List ℕ} → IsKind w (functions false) → Stops w
unfolding number
function_stops {w} k = word_stops w (kind_word w (functions false) refl k.kind)

pub rule_stops : {w : List ℕ} → IsKind w rules → Stops w
unfolding number
rule_stops {w} k = word_stops w (kind_word w rules refl k.kind)

pub invariant_stops : {w : List ℕ} → IsKind w invariants → Stops w
unfolding number
invariant_stops {w} k = word_stops w (kind_word w invariants refl k.kind)

pub element_stops : {w : List ℕ} → IsKind w elements → Stops w
unfolding number
element_stops {w} k = word_stops w (kind_word w elements refl k.kind)

pub domain_stops : {w : List ℕ} → IsKind w domains → Stops w
unfolding number
domain_stops {w} k = word_stops w (kind_word w domains refl k.kind)

pub any_stops : {w : List ℕ} → IsKind w words → Stops w
unfolding number
any_stops {w} k = word_stops w (kind_word w words refl k.kind)

pub free_stops : {w : List ℕ} → IsKind w free_words → Stops w
unfolding number
free_stops {w} k = word_stops w (kind_word w free_words refl k.kind)

pub variable_ends : {w : List ℕ} → IsKind w variables → Stops w
unfolding number
variable_ends {w} k = variable_stops w (kind_variable w k.kind)

-- ---- words that stand for themselves

-- a word, a space, and a phrase
pub word_then : {A : Type 0} {ks : List ℕ} {g : Grammar models A} {d : List Item} {P : A → Type 0} (w : List ℕ) → is_word w ≡ true → has (suc (number (class_of w))) ks ≡ true → Good g d P → Good (shown (λ (p : TokenText × A). p.1) (both (word ks) g)) (One w ∷ Gap ∷ d) P
word_then {A} {ks} {g} {d} {P} w i k p = good_after (is_kind k) (joins_leads (word_stops w i) leads_gap) (good_gap p)

-- a word at the end of a line, and a phrase on the next one
pub word_line : {A : Type 0} {ks : List ℕ} {g : Grammar models A} {d : List Item} {P : A → Type 0} (w : List ℕ) (n : ℕ) → is_word w ≡ true → has (suc (number (class_of w))) ks ≡ true → Good g d P → Good (shown (λ (p : TokenText × A). p.1) (both (word ks) g)) (One w ∷ Line n ∷ d) P
word_line {A} {ks} {g} {d} {P} w n i k p = good_after (is_kind k) (joins_leads (word_stops w i) leads_line) (good_line p)

-- a symbol, a space, and a phrase
pub symbol_then : {A : Type 0} {ks : List ℕ} {g : Grammar models A} {d : List Item} {P : A → Type 0} {w : List ℕ} → Stops w → has (suc (number (class_of w))) ks ≡ true → Good g d P → Good (shown (λ (p : TokenText × A). p.1) (both (word ks) g)) (One w ∷ Gap ∷ d) P
symbol_then {A} {ks} {g} {d} {P} {w} s k p = good_after (is_kind k) (joins_leads s leads_gap) (good_gap p)

-- a symbol with which nothing goes on, and a phrase right behind it
pub free_then : {A : Type 0} {ks : List ℕ} {g : Grammar models A} {d : List Item} {P : A → Type 0} {w : List ℕ} → Free w → has (suc (number (class_of w))) ks ≡ true → Good g d P → Good (shown (λ (p : TokenText × A). p.1) (both (word ks) g)) (One w ∷ d) P
free_then {A} {ks} {g} {d} {P} {w} f k p = good_after (is_kind k) (joins_free f) p

-- a word alone
pub word_alone : {ks : List ℕ} (w : List ℕ) → is_word w ≡ true → has (suc (number (class_of w))) ks ≡ true → Good (word ks) (One w ∷ []) (λ t. t.text ≡ w)
word_alone {ks} w i k = good_word (word_stops w i) (is_kind k) (λ t e. e)

pub symbol_alone : {ks : List ℕ} {w : List ℕ} → Stops w → has (suc (number (class_of w))) ks ≡ true → Good (word ks) (One w ∷ []) (λ t. t.text ≡ w)
symbol_alone {ks} {w} s k = good_word s (is_kind k) (λ t e. e)

-- a phrase, and a token at its end that stands for itself
pub closed : {A : Type 0} {ks : List ℕ} {g : Grammar models A} {a b : List Item} {P : A → Type 0} {Q : TokenText → Type 0} → Good g a P → Leads b → Good (word ks) b Q → Good (shown (λ (p : A × TokenText). p.0) (both g (word ks))) (a ++ b) P
closed {A} {ks} {g} {a} {b} {P} {Q} p l q = good_shown (good_both p l q) (λ x h. h.0)

-- a word, a space, and what stands behind a token that opens a level
pub word_opens : {ks : List ℕ} {x : Inside} {d : List Item} {P : Value x → Type 0} (w : List ℕ) → is_word w ≡ true → has (suc (number (class_of w))) ks ≡ true → Good (body false x) d P → Good (opening ks x) (One w ∷ Gap ∷ d) (λ p. (p.0.text ≡ w) × P p.1)
word_opens {ks} {x} {d} {P} w i k p = good_opening (is_kind k) (joins_leads (word_stops w i) leads_gap) (good_gap p)

pub free_opens : {ks : List ℕ} {x : Inside} {d : List Item} {P : Value x → Type 0} {w : List ℕ} → Free w → has (suc (number (class_of w))) ks ≡ true → Good (body false x) d P → Good (opening ks x) (One w ∷ d) (λ p. (p.0.text ≡ w) × P p.1)
free_opens {ks} {x} {d} {P} {w} f k p = good_opening (is_kind k) (joins_free f) p
