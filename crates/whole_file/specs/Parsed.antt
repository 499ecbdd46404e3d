-- What the tokens of a file are, whatever its grammar.
use Rattle.std.specs.Prelude.{◌≡◌, ◌≢◌, ℕ, true, List, length, Result, Ok, Err}
use Rattle.asm_lex.specs.declared.token.Token.{Token}
use Rattle.asm_grammar.specs.declared.Stop.{Stop}
use Rattle.asm_grammar.specs.Grammar.{Grammar}
use Rattle.asm_grammar.specs.Whole.{whole_at}
use Rattle.asm_tree.specs.declared.error.ParseError.{ParseError}
use Rattle.asm_tree.specs.declared.error.ParseError.TheVariants.{Memory}
use Rattle.asm_tree.specs.Language.{TokenText, models}
use Rattle.asm_tree.specs.Rules.{body}
use Rattle.asm_tree.specs.Spelling.{limit, token_texts}
use Rattle.asm_body.specs.Fronts.{error_of}

abbrev pub parse_of : {A : Type 0} → List TokenText → Result A Stop → Result A ParseError
parse_of ts (Ok tree) = Ok tree
parse_of ts (Err e) = Err (error_of ts (length ts) e)

-- what the tokens of the text spell, or the first token with which no text goes on or that nests too deep
unfoldable pub parsed : {A : Type 0} → Grammar models A → List ℕ → List Token → Result A ParseError
parsed whole text tokens = parse_of (token_texts text tokens) (whole_at models (body true) whole limit (token_texts text tokens))

-- It is that answer, unless memory ran out.
abbrev pub Parses : {A : Type 0} → Result A ParseError → Result A ParseError → Type 0
Parses (Ok tree) o = o ≡ Ok tree
Parses (Err e) o = e ≢ Memory → o ≡ Err e
