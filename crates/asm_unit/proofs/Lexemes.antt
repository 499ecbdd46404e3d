-- What reading tokens with their classes answers.
use Rattle.std.proofs.Common.{◌≡◌, ◌≢◌, ◌∙◌, ℕ, List, Result, Ok, Err, refl, ap, sym, subst, arith, length}
use Rattle.std.proofs.lemmas.List.{length-map}
use Rattle.asm_grammar.specs.declared.Stop.{Stop}
use Rattle.asm_grammar.specs.declared.Stop.TheVariants as stop
use Rattle.asm_grammar.specs.Whole.{GivesWhole}
use Rattle.asm_lex.specs.declared.token.Token.{Token}
use Rattle.asm_tree.specs.declared.error.ParseError.TheVariants.{Memory}
use Rattle.asm_tree.specs.declared.unit.RawUnit.{RawUnit}
use Rattle.asm_tree.specs.Language.{TokenText}
use Rattle.asm_tree.specs.Spelling.{token_text, token_texts}
use Rattle.asm_body.specs.declared.lexeme.Lexeme.{Lexeme}
use Rattle.asm_body.specs.Seen.{seen, all_seen}
use Rattle.asm_unit.specs.Spelled.{error_of, parse_of, parsed, Counts}
use Rattle.asm_unit.proofs.Verdicts.{whole_of, counts}

module _ (text : List ℕ) (ts : List Token) (xs : List Lexeme) (same : all_seen xs ≡ token_texts text ts) where
  given : (o : Result RawUnit Stop) → whole_of (all_seen xs) ≡ o → whole_of (token_texts text ts) ≡ o
  given o e = subst (λ (ws : List TokenText). whole_of ws ≡ o) same e

  pub read_unit : (y : RawUnit) → whole_of (all_seen xs) ≡ Ok y → parsed text ts ≡ Ok y
  unfolding parsed
  read_unit y e = ap (parse_of (token_texts text ts)) (given (Ok y) e)

  -- an error that isn't want of memory
  pub read_stop : (e : Stop) → GivesWhole {A = RawUnit} (Err e) (whole_of (all_seen xs)) → error_of (all_seen xs) e ≢ Memory → parsed text ts ≡ Err (error_of (all_seen xs) e)
  unfolding parsed
  read_stop stop.Memory g ne = absurd (ne refl)
  read_stop (stop.Syntax left) g ne = ap (parse_of (token_texts text ts)) (given (Err (stop.Syntax left)) (g (λ z. (cc (z))))) ∙ ap (λ (ws : List TokenText). Err (error_of ws (stop.Syntax left))) (sym same)
  read_stop (stop.TooDeep left) g ne = ap (parse_of (token_texts text ts)) (given (Err (stop.TooDeep left)) (g (λ z. (cc (z))))) ∙ ap (λ (ws : List TokenText). Err (error_of ws (stop.TooDeep left))) (sym same)

  few : length (all_seen xs) ≡ length xs
  few = length-map xs seen

  pub counts_in : (e : Stop) → GivesWhole {A = RawUnit} (Err e) (whole_of (all_seen xs)) → Counts (length xs) e
  counts_in stop.Memory g = tt
  counts_in (stop.Syntax left) g = let c = counts (all_seen xs) (stop.Syntax left) (g (λ z. (cc (z)))) in omega (arith, c, few)
  counts_in (stop.TooDeep left) g = let c = counts (all_seen xs) (stop.TooDeep left) (g (λ z. (cc (z)))) in omega (arith, c, few)

  pub as_many : length xs ≡ length ts
  as_many = sym few ∙ ap length same ∙ length-map ts (token_text text)
