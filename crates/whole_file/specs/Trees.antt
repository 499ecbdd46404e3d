-- What it is to be a file of a grammar, and why tokens are none.
use Rattle.std.specs.Prelude.{◌≡◌, ◌⊎◌, ℕ, List, drop, true, false, Result, Ok, Err}
use Rattle.asm_grammar.specs.Grammar.{Grammar}
use Rattle.asm_grammar.specs.Text.{IsText, IsRefused, IsTooDeep}
use Rattle.asm_lex.specs.declared.token.Token.{Token}
use Rattle.asm_tree.specs.declared.error.ParseError.{ParseError}
use Rattle.asm_tree.specs.declared.error.ParseError.TheVariants.{Memory, Syntax, Unsupported, TooDeep}
use Rattle.asm_tree.specs.Language.{models}
use Rattle.asm_tree.specs.Rules.{body}
use Rattle.asm_tree.specs.Spelling.{limit, token_texts}
use Rattle.asm_body.specs.Fronts.{left_out}

module _ {A : Type 0} (whole : Grammar models A) (text : List ℕ) (ts : List Token) where
  -- The tokens of the text spell the tree, and none of them nests too deep.
  abbrev pub IsTree : A → Type 0
  IsTree y = IsText models (body true) whole limit (token_texts text ts) y

  -- Token k is the first with which no such text goes on.
  abbrev pub IsRefusedAt : ℕ → Type 0
  IsRefusedAt k = IsRefused models (body true) whole limit (token_texts text ts) k

  -- Why the tokens of the text spell no tree, where memory sufficed.
  abbrev pub Explains : ParseError → Type 0
  Explains (Syntax k) = IsRefusedAt k × (left_out (drop k (token_texts text ts)) ≡ false)
  Explains (Unsupported k) = IsRefusedAt k × (left_out (drop k (token_texts text ts)) ≡ true)
  Explains (TooDeep k) = IsTooDeep models (body true) whole limit (token_texts text ts) k
  Explains Memory = Unit {0}

abbrev pub AgreesWith : {A : Type 0} → A → Result A ParseError → Type 0
AgreesWith y (Ok x) = x ≡ y
AgreesWith y (Err e) = e ≡ Memory

-- The answer is that error, or memory ran out.
abbrev pub RefusesWith : {A : Type 0} → ParseError → Result A ParseError → Type 0
RefusesWith e (Ok x) = ⊥
RefusesWith e (Err f) = (f ≡ Memory) ⊎ (f ≡ e)
