-- The tokens of a text, one after the other.
use Rattle.std.proofs.Common.{◌≡◌, ℕ, zero, suc, ◌+◌, ◌<◌, List, [], ◌∷◌, ◌++◌, ap, sym, ◌∙◌, arith, length, take, get_or, add-one}
use Rattle.std.proofs.lemmas.List.{map-append}
use Rattle.std.proofs.Math.Seq.{take-suc}
use Rattle.asm_lex.specs.declared.token.Token.{Token}
use Rattle.asm_lex.specs.Cut.{IsIn, AreIn}
use Rattle.asm_body.specs.declared.lexeme.Lexeme.{Lexeme}
use Rattle.asm_lex.proofs.Small.{IsSmall, AreSmall}
use Rattle.asm_tree.specs.Spelling.{token_text, token_texts}
use Rattle.asm_body.specs.Seen.{seen, all_seen}

pub in_at : (text : List ℕ) (ts : List Token) (i : ℕ) (d : Token) → AreIn text ts → i < length ts → IsIn text (get_or ts i d)
in_at text [] i d a lt = absurd (omega arith)
in_at text (t ∷ ts) zero d a lt = a.0
in_at text (t ∷ ts) (suc i) d a lt = in_at text ts i d a.1 (omega arith)

pub one_more : (text : List ℕ) (ts : List Token) (i : ℕ) (d : Token) (xs : List Lexeme) (x : Lexeme) → i < length ts → all_seen xs ≡ token_texts text (take i ts) → seen x ≡ token_text text (get_or ts i d)
    → all_seen (xs ++ x ∷ []) ≡ token_texts text (take (i + 1) ts)
one_more text ts i d xs x lt e f =
    map-append seen xs (x ∷ []) ∙ ap (λ z. z ++ seen x ∷ []) e ∙ ap (λ z. token_texts text (take i ts) ++ z ∷ []) f
    ∙ sym (map-append (token_text text) (take i ts) (get_or ts i d ∷ [])) ∙ ap (token_texts text) (sym (rw add-one (take-suc ts i d lt)))

pub small_at : (text : List ℕ) (ts : List Token) (i : ℕ) (d : Token) → AreSmall text ts → i < length ts → IsSmall text (get_or ts i d)
small_at text [] i d a lt = absurd (omega arith)
small_at text (t ∷ ts) zero d a lt = a.0
small_at text (t ∷ ts) (suc i) d a lt = small_at text ts i d a.1 (omega arith)
