-- What it is to be a term, a rule or a unit, and why tokens are none.
use Rattle.std.specs.Prelude.{ℕ, List, map, slice_range}
use Rattle.asm_lex.specs.declared.token.Token.{Token}
use Rattle.asm_tree.specs.Language.{TokenText}

-- the greatest nesting
abbrev pub limit : ℕ
limit = 64

-- a token of a text
abbrev pub token_text : List ℕ → Token → TokenText
token_text text t = record { at = t.from; text = slice_range text t.from t.to }

-- the tokens of a text
abbrev pub token_texts : List ℕ → List Token → List TokenText
token_texts text ts = map (token_text text) ts
