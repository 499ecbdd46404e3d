-- What reading tokens with their classes answers.
use Rattle.std.proofs.Common.{◌≡◌, ◌≢◌, ◌∙◌, ℕ, true, List, Result, Ok, Err, refl, ap, sym, subst, arith, length}
use Rattle.std.proofs.lemmas.List.{length-map}
use Rattle.asm_grammar.specs.declared.Stop.{Stop}
use Rattle.asm_grammar.specs.declared.Stop.TheVariants as stop
use Rattle.asm_grammar.specs.Grammar.{Grammar}
use Rattle.asm_grammar.specs.Whole.{GivesWhole}
use Rattle.asm_grammar.proofs.Whole.{CheckedWhole}
use Rattle.asm_lex.specs.declared.token.Token.{Token}
use Rattle.asm_tree.specs.declared.error.ParseError.{ParseError}
use Rattle.asm_tree.specs.declared.error.ParseError.TheVariants.{Memory}
use Rattle.asm_tree.specs.Language.{TokenText, models}
use Rattle.asm_tree.specs.Rules.{body}
use Rattle.asm_tree.specs.Spelling.{token_text, token_texts}
use Rattle.asm_tree.proofs.Checks.{table, late}
use Rattle.asm_body.specs.declared.lexeme.Lexeme.{Lexeme}
use Rattle.asm_body.specs.Fronts.{error_of, Counts}
use Rattle.asm_body.specs.Seen.{seen, all_seen}
use Rattle.whole_file.specs.Parsed.{parse_of, parsed}
use Rattle.whole_file.proofs.Verdicts.{whole_of, counts}

module _ {A : Type 0} (g : Grammar models A) (c : CheckedWhole models (body true) g table late) (text : List ℕ) (ts : List Token) (xs : List Lexeme) (same : all_seen xs ≡ token_texts text ts) where
  given : (o : Result A Stop) → whole_of g c (all_seen xs) ≡ o → whole_of g c (token_texts text ts) ≡ o
  given o e = subst (λ (ws : List TokenText). whole_of g c ws ≡ o) same e

  pub read_tree : (y : A) → whole_of g c (all_seen xs) ≡ Ok y → parsed g text ts ≡ Ok y
  unfolding parsed
  read_tree y e = ap (parse_of (token_texts text ts)) (given (Ok y) e)

  few : length (all_seen xs) ≡ length xs
  few = length-map xs seen

  -- where reading stopped, in the tokens of the text
  stop_at : (e : Stop) → error_of (token_texts text ts) (length (token_texts text ts)) e ≡ error_of (all_seen xs) (length xs) e
  stop_at e = ap (λ (ws : List TokenText). error_of ws (length ws) e) (sym same) ∙ ap (λ (n : ℕ). error_of (all_seen xs) n e) few

  -- an error that isn't want of memory
  pub read_stop : (e : Stop) → GivesWhole {A = A} (Err e) (whole_of g c (all_seen xs)) → error_of (all_seen xs) (length xs) e ≢ Memory → parsed g text ts ≡ Err (error_of (all_seen xs) (length xs) e)
  unfolding parsed
  read_stop stop.Memory h ne = absurd (ne refl)
  read_stop (stop.Syntax left) h ne = ap (parse_of (token_texts text ts)) (given (Err (stop.Syntax left)) (h (λ z. (cc (z))))) ∙ ap (λ (e : ParseError). Err e) (stop_at (stop.Syntax left))
  read_stop (stop.TooDeep left) h ne = ap (parse_of (token_texts text ts)) (given (Err (stop.TooDeep left)) (h (λ z. (cc (z))))) ∙ ap (λ (e : ParseError). Err e) (stop_at (stop.TooDeep left))

  pub counts_in : (e : Stop) → GivesWhole {A = A} (Err e) (whole_of g c (all_seen xs)) → Counts (length xs) e
  counts_in stop.Memory h = tt
  counts_in (stop.Syntax left) h = let n = counts g c (all_seen xs) (stop.Syntax left) (h (λ z. (cc (z)))) in omega (arith, n, few)
  counts_in (stop.TooDeep left) h = let n = counts g c (all_seen xs) (stop.TooDeep left) (h (λ z. (cc (z)))) in omega (arith, n, few)

  pub as_many : length xs ≡ length ts
  as_many = sym few ∙ ap length same ∙ length-map ts (token_text text)
