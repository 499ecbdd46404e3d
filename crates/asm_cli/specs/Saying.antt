-- What is printed, as relations between a text and a code, and files that are read whole.
use Rattle.std.specs.Prelude.{◌≡◌, ℕ, List, [], ◌∷◌, ◌++◌, Result, Ok, Err}
use Rattle.asm_source.specs.Spots.{text_of}
use Rattle.asm_source.specs.declared.sources.Source.{Source}
use Rattle.asm_lex.specs.declared.token.Token.{Token}
use Rattle.asm_tree.specs.declared.error.ParseError.{ParseError}
use Rattle.asm_unit.specs.declared.error.LoadError.{LoadError}
use Rattle.asm_unit.specs.Loading.{Outcome}
use Rattle.asm_unit.specs.Spelled.{parse_fault}
use Rattle.asm_cli.specs.Fault.{fault_text}

-- ---- texts and codes

abbrev pub Saying : Type 1
Saying = List ℕ → ℕ → Type 0

-- exactly these bytes, with this code
pub record SaysBytes (bytes : List ℕ) (meant : ℕ) (text : List ℕ) (code : ℕ) : Type 0 where
  pub text_is : text ≡ bytes
  pub code_is : code ≡ meant

-- this line, with this code
pub record Says (line : List ℕ) (meant : ℕ) (text : List ℕ) (code : ℕ) : Type 0 where
  pub text_is : text ≡ line ++ 10 ∷ []
  pub code_is : code ≡ meant

-- what `says` says of these files and what they are, or the line of the first fault of a file
abbrev pub says_end : {A : Type 0} → (List Source → A → Saying) → List Source → Result A LoadError → Saying
says_end says sources (Ok value) text code = says sources value text code
says_end says sources (Err fault) text code = Says (fault_text sources fault) 3 text code

-- the same where these files were read and this came of it
abbrev pub says_outcome : {A : Type 0} → (List Source → A → Saying) → Outcome A → Saying
says_outcome says o text code = says_end says o.sources o.end text code

-- ---- files that are read whole

-- how tokens of a text are read
abbrev pub Reading : Type 0 → Type 0
Reading A = List ℕ → List Token → Result A ParseError

-- what tokens of the file of this number spell, or why they spell nothing
abbrev pub spelled : {A : Type 0} → ℕ → List ℕ → List Token → Result A ParseError → Result A LoadError
spelled file text tokens (Ok raw) = Ok raw
spelled file text tokens (Err e) = Err (parse_fault file text tokens e)

abbrev pub spelled_from : {A : Type 0} → Reading A → ℕ → List ℕ → Result (List Token) LoadError → Result A LoadError
spelled_from reading file text (Ok tokens) = spelled file text tokens (reading text tokens)
spelled_from reading file text (Err e) = Err e

-- what the file that was read last spells, of which these are the tokens
abbrev pub read_as : {A : Type 0} → Reading A → ℕ → Outcome (List Token) → Outcome A
read_as reading file o = record { sources = o.sources; end = spelled_from reading file (text_of o.sources file) o.end }

-- the greatest number of bytes of an input file and of a scenario
abbrev pub most_input_bytes : ℕ
most_input_bytes = 1048576
