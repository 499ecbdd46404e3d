-- What it is to be a unit, and why tokens are none.
use Rattle.std.specs.Prelude.{◌≡◌, ◌⊎◌, ℕ, List, true, false, Result, Ok, Err}
use Rattle.asm_grammar.specs.Text.{IsText, IsRefused, IsTooDeep}
use Rattle.asm_lex.specs.declared.token.Token.{Token}
use Rattle.asm_tree.specs.declared.error.ParseError.{ParseError}
use Rattle.asm_tree.specs.declared.error.ParseError.TheVariants.{Memory, Syntax, Unsupported, TooDeep}
use Rattle.asm_tree.specs.declared.unit.RawUnit.{RawUnit}
use Rattle.asm_tree.specs.Language.{models}
use Rattle.asm_tree.specs.Rules.{body}
use Rattle.asm_tree.specs.Units as language
use Rattle.asm_tree.specs.Spelling.{limit, token_texts}
use Rattle.asm_unit.specs.Spelled.{is_left_out}

-- The tokens of the text spell the unit, and none of them nests too deep.
abbrev pub IsUnit : List ℕ → List Token → RawUnit → Type 0
IsUnit text ts y = IsText models (body false) language.unit limit (token_texts text ts) y

-- Token k is the first with which no unit goes on.
abbrev pub IsRefusedAt : List ℕ → List Token → ℕ → Type 0
IsRefusedAt text ts k = IsRefused models (body false) language.unit limit (token_texts text ts) k

-- Why the tokens of the text spell no unit, where memory sufficed.
abbrev pub Explains : List ℕ → List Token → ParseError → Type 0
Explains text ts (Syntax k) = IsRefusedAt text ts k × (is_left_out (token_texts text ts) k ≡ false)
Explains text ts (Unsupported k) = IsRefusedAt text ts k × (is_left_out (token_texts text ts) k ≡ true)
Explains text ts (TooDeep k) = IsTooDeep models (body false) language.unit limit (token_texts text ts) k
Explains text ts Memory = Unit {0}

abbrev pub AgreesWith : RawUnit → Result RawUnit ParseError → Type 0
AgreesWith y (Ok x) = x ≡ y
AgreesWith y (Err e) = e ≡ Memory

-- The answer is that error, or memory ran out.
abbrev pub RefusesWith : ParseError → Result RawUnit ParseError → Type 0
RefusesWith e (Ok x) = ⊥
RefusesWith e (Err f) = (f ≡ Memory) ⊎ (f ≡ e)
