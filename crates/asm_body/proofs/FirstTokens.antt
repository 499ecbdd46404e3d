-- What terms and rules begin with.
use Rattle.std.proofs.Common.{◌≡◌, ℕ, Bool, true, false, ◌||◌, List, [], ◌∷◌, ◌++◌, refl, ap, sym, ◌∙◌}
use Rattle.std.specs.Prelude.{◌==◌}
use Rattle.asm_grammar.specs.Grammar.{has, firsts}
use Rattle.asm_tree.specs.Words.{kind_of}
use Rattle.asm_tree.specs.declared.class.Class.TheVariants as class
use Rattle.asm_tree.specs.Language.{models, functions}
use Rattle.asm_tree.specs.Terms.{arguments, call, leaf, named, enclosed, primary, opposite, product, product_tail, sum, sum_tail, comparison, comparison_tail, negation, conjunction, conjunction_tail, disjunction, disjunction_tail, implication, implication_tail, equivalence, equivalence_tail, term, terms, more_terms}
use Rattle.asm_tree.specs.Rules.{update, macro_call, block, rule}
use Rattle.asm_body.specs.Levels.{leaves, names}

abbrev pub prefixes : List ℕ
prefixes = kind_of class.Not ∷ kind_of class.Minus ∷ []

-- the words and the symbol that enclose a term
abbrev pub enclosing : List ℕ
enclosing = kind_of class.Open ∷ kind_of class.If ∷ kind_of class.Switch ∷ kind_of class.Let ∷ []

-- the words of rules but `skip`, and the names of macros
abbrev pub rule_words : List ℕ
rule_words = kind_of class.RuleName ∷ kind_of class.Par ∷ kind_of class.Seq ∷ kind_of class.If ∷ kind_of class.Switch ∷ kind_of class.Let ∷ kind_of class.Forall ∷ kind_of class.Choose ∷ []

or_assoc : (a b c : Bool) → ((a || b) || c) ≡ (a || (b || c))
or_assoc true b c = refl
or_assoc false b c = refl

has_append : (k : ℕ) (xs ys : List ℕ) → has k (xs ++ ys) ≡ (has k xs || has k ys)
has_append k [] ys = refl
has_append k (x ∷ xs) ys = ap (λ b. (k == x) || b) (has_append k xs ys) ∙ sym (or_assoc (k == x) (has k xs) (has k ys))

term_list : (s : Bool) → firsts models (terms s) ≡ prefixes ++ (leaves ++ (functions s ++ (names ++ enclosing)))
unfolding arguments call leaf named enclosed primary opposite product product_tail sum sum_tail comparison comparison_tail negation conjunction conjunction_tail disjunction disjunction_tail implication implication_tail equivalence equivalence_tail term terms more_terms
term_list true = refl
term_list false = refl

pub term_starts : (k : ℕ) (s : Bool) → has k (firsts models (terms s)) ≡ (has k prefixes || (has k leaves || (has k (functions s) || (has k names || has k enclosing))))
term_starts k s =
    ap (has k) (term_list s) ∙ has_append k prefixes (leaves ++ (functions s ++ (names ++ enclosing)))
    ∙ ap (λ b. has k prefixes || b) (has_append k leaves (functions s ++ (names ++ enclosing))
    ∙ ap (λ b. has k leaves || b) (has_append k (functions s) (names ++ enclosing)
    ∙ ap (λ b. has k (functions s) || b) (has_append k names enclosing)))

rule_list : (s : Bool) → firsts models (rule s) ≡ (kind_of class.Skip ∷ []) ++ (functions s ++ rule_words)
unfolding rule update macro_call block
rule_list true = refl
rule_list false = refl

pub rule_starts : (k : ℕ) (s : Bool) → has k (firsts models (rule s)) ≡ (has k (kind_of class.Skip ∷ []) || (has k (functions s) || has k rule_words))
rule_starts k s = ap (has k) (rule_list s) ∙ has_append k (kind_of class.Skip ∷ []) (functions s ++ rule_words) ∙ ap (λ b. has k (kind_of class.Skip ∷ []) || b) (has_append k (functions s) rule_words)
