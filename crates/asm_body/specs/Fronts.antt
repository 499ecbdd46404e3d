-- What the calls that read a term or a rule from a token on answer.
use Rattle.std.specs.Prelude.{◌≡◌, ◌⊎◌, ℕ, ◌+◌, ◌-◌, ◌≤◌, List, [], ◌∷◌, Bool, true, false, if◌then◌else◌, length, drop, Result, Ok, Err}
use Rattle.asm_grammar.specs.declared.Stop.{Stop}
use Rattle.asm_grammar.specs.declared.Stop.TheVariants as stop
use Rattle.asm_grammar.specs.Grammar.{Grammar, has, ahead}
use Rattle.asm_grammar.specs.Text.{IsTooDeep}
use Rattle.asm_grammar.specs.Front.{IsFront, IsNoFront}
use Rattle.asm_lex.specs.declared.token.Token.{Token}
use Rattle.asm_tree.specs.Words.{kind_of}
use Rattle.asm_tree.specs.declared.class.Class.TheVariants as class
use Rattle.asm_tree.specs.declared.error.ParseError.{ParseError}
use Rattle.asm_tree.specs.declared.error.ParseError.TheVariants.{Memory, Syntax, Unsupported, TooDeep}
use Rattle.asm_tree.specs.Language.{TokenText, models}
use Rattle.asm_tree.specs.Rules.{body}
use Rattle.asm_tree.specs.Spelling.{limit, token_texts}

-- A word of a form that the language leaves out comes next.
abbrev pub left_out : List TokenText → Bool
left_out w = has (ahead models w 0) (kind_of class.Unsupported ∷ [])

module _ {A : Type 0} (script : Bool) (whole : Grammar models A) (text : List ℕ) (ts : List Token) (from nest : ℕ) where
  -- the tokens from a first one on
  abbrev pub tokens_on : List TokenText
  tokens_on = token_texts text (drop from ts)

  -- The tokens up to the one before token k spell y, none of them nests too deep, and no text goes on with token k.
  pub record IsAt (y : A) (k : ℕ) : Type 0 where
    pub size : ℕ
    pub place : k ≡ from + size
    pub front : IsFront models (body script) whole (limit - nest) tokens_on y size

  -- These tokens begin a text and are none, none of them nests too deep, and no text goes on with token k.
  pub record IsStoppedAt (k : ℕ) : Type 0 where
    pub size : ℕ
    pub place : k ≡ from + size
    pub none : IsNoFront models (body script) whole (limit - nest) tokens_on size

  -- The tokens up to token k begin a text, and it is the first that nests too deep.
  pub record IsDeepAt (k : ℕ) : Type 0 where
    pub size : ℕ
    pub place : k ≡ from + size
    pub deep : IsTooDeep models (body script) whole (limit - nest) tokens_on size

  -- Why no text was read, where memory sufficed.
  abbrev pub Explains : ParseError → Type 0
  Explains (Syntax k) = (i : IsStoppedAt k) × (left_out i.none.rest ≡ false)
  Explains (Unsupported k) = (i : IsStoppedAt k) × (left_out i.none.rest ≡ true)
  Explains (TooDeep k) = IsDeepAt k
  Explains Memory = Unit {0}

-- The answer is this tree and place, or memory ran out.
abbrev pub AgreesWith : {A : Type 0} → A → ℕ → Result (A × ℕ) ParseError → Type 0
AgreesWith y k (Ok x) = (x.0 ≡ y) × (x.1 ≡ k)
AgreesWith y k (Err e) = e ≡ Memory

-- The answer is that error, or memory ran out.
abbrev pub RefusesWith : {A : Type 0} → ParseError → Result (A × ℕ) ParseError → Type 0
RefusesWith e (Ok x) = ⊥
RefusesWith e (Err f) = (f ≡ Memory) ⊎ (f ≡ e)

-- where reading these tokens, the last of n, stopped
abbrev pub error_of : List TokenText → ℕ → Stop → ParseError
error_of w n stop.Memory = Memory
error_of w n (stop.Syntax left) = if left_out (drop (length w - left) w) then Unsupported (n - left) else Syntax (n - left)
error_of w n (stop.TooDeep left) = TooDeep (n - left)

-- no more tokens are left than there are
abbrev pub Counts : ℕ → Stop → Type 0
Counts n stop.Memory = Unit {0}
Counts n (stop.Syntax left) = left ≤ n
Counts n (stop.TooDeep left) = left ≤ n
