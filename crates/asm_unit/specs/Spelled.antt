-- What the bytes of a file are: its tokens, and its tree.
use Rattle.std.specs.Prelude.{◌≡◌, ◌≢◌, ◌≤◌, ℕ, ◌-◌, Bool, false, ◌==◌, List, length, if◌then◌else◌, Result, Ok, Err, slice_get}
use Rattle.std.specs.Option.{option_map_or}
use Rattle.asm_source.specs.declared.sources.Place.{Place}
use Rattle.asm_lex.specs.declared.token.Token.{Token}
use Rattle.asm_lex.specs.declared.error.LexError.{LexError}
use Rattle.asm_lex.specs.declared.error.LexError.TheVariants as lex
use Rattle.asm_lex.specs.Cut.{cut}
use Rattle.asm_grammar.specs.declared.Stop.{Stop}
use Rattle.asm_grammar.specs.declared.Stop.TheVariants as stop
use Rattle.asm_grammar.specs.Whole.{whole_at}
use Rattle.asm_tree.specs.Words.{class_of, kind_of}
use Rattle.asm_tree.specs.declared.class.Class.TheVariants as class
use Rattle.asm_tree.specs.declared.error.ParseError.{ParseError}
use Rattle.asm_tree.specs.declared.error.ParseError.TheVariants as parse
use Rattle.asm_tree.specs.declared.unit.RawUnit.{RawUnit}
use Rattle.asm_tree.specs.Language.{TokenText, models}
use Rattle.asm_tree.specs.Rules.{body}
use Rattle.asm_tree.specs.Units as language
use Rattle.asm_tree.specs.Spelling.{limit, token_texts}
use Rattle.asm_unit.specs.declared.error.LoadError.{LoadError}
use Rattle.asm_unit.specs.declared.error.LoadError.TheVariants.{Lex, Parse, Memory}

-- ---- tokens

-- what is wrong with a file that has no tokens
abbrev pub lex_fault : ℕ → LexError → LoadError
lex_fault file (lex.BadByte at) = Lex (record { file = file; at = at }) (lex.BadByte at)
lex_fault file (lex.OpenComment at) = Lex (record { file = file; at = at }) (lex.OpenComment at)
lex_fault file (lex.NumberTooBig at) = Lex (record { file = file; at = at }) (lex.NumberTooBig at)
lex_fault file lex.Memory = Memory

abbrev pub cut_in : ℕ → Result (List Token) LexError → Result (List Token) LoadError
cut_in file (Ok tokens) = Ok tokens
cut_in file (Err e) = Err (lex_fault file e)

-- the tokens of the text of the file of this number
abbrev pub tokens_of : ℕ → List ℕ → Result (List Token) LoadError
tokens_of file text = cut_in file (cut text)

-- ---- trees

-- the token is a word of a form that the language leaves out
abbrev pub is_unsupported : TokenText → Bool
is_unsupported t = kind_of (class_of t.text) == kind_of class.Unsupported

-- token k is such a word
abbrev pub is_left_out : List TokenText → ℕ → Bool
is_left_out ts k = option_map_or is_unsupported (slice_get ts k) false

-- token k is refused
abbrev pub refusal : List TokenText → ℕ → ParseError
refusal ts k = if is_left_out ts k then parse.Unsupported k else parse.Syntax k

-- where reading stopped, in these tokens
abbrev pub error_of : List TokenText → Stop → ParseError
error_of ts stop.Memory = parse.Memory
error_of ts (stop.Syntax left) = refusal ts (length ts - left)
error_of ts (stop.TooDeep left) = parse.TooDeep (length ts - left)

abbrev pub parse_of : List TokenText → Result RawUnit Stop → Result RawUnit ParseError
parse_of ts (Ok unit) = Ok unit
parse_of ts (Err e) = Err (error_of ts e)

-- the unit that the tokens of the text spell, or the first token with which no unit goes on or that nests too deep
unfoldable pub parsed : List ℕ → List Token → Result RawUnit ParseError
parsed text tokens = parse_of (token_texts text tokens) (whole_at models (body false) language.unit limit (token_texts text tokens))

-- It is that answer, unless memory ran out.
abbrev pub Parses : Result RawUnit ParseError → Result RawUnit ParseError → Type 0
Parses (Ok unit) o = o ≡ Ok unit
Parses (Err e) o = e ≢ parse.Memory → o ≡ Err e

-- the byte of token k, or the end of the text
abbrev pub token_place : List ℕ → List Token → ℕ → ℕ
token_place text tokens k = option_map_or (λ (t : Token). t.from) (slice_get tokens k) (length text)

abbrev pub token_in : ℕ → List ℕ → List Token → ℕ → Place
token_in file text tokens k = record { file = file; at = token_place text tokens k }

-- what is wrong with a file whose tokens spell no unit
abbrev pub parse_fault : ℕ → List ℕ → List Token → ParseError → LoadError
parse_fault file text tokens (parse.Syntax k) = Parse (token_in file text tokens k) (parse.Syntax k)
parse_fault file text tokens (parse.Unsupported k) = Parse (token_in file text tokens k) (parse.Unsupported k)
parse_fault file text tokens (parse.TooDeep k) = Parse (token_in file text tokens k) (parse.TooDeep k)
parse_fault file text tokens parse.Memory = Memory

abbrev pub parsed_in : ℕ → List ℕ → List Token → Result RawUnit ParseError → Result RawUnit LoadError
parsed_in file text tokens (Ok unit) = Ok unit
parsed_in file text tokens (Err e) = Err (parse_fault file text tokens e)

abbrev pub tree_from : ℕ → List ℕ → Result (List Token) LoadError → Result RawUnit LoadError
tree_from file text (Ok tokens) = parsed_in file text tokens (parsed text tokens)
tree_from file text (Err e) = Err e

-- the tree of the text of the file of this number
unfoldable pub tree_of : ℕ → List ℕ → Result RawUnit LoadError
tree_of file text = tree_from file text (tokens_of file text)

-- no more tokens are left than there are
abbrev pub Counts : ℕ → Stop → Type 0
Counts n stop.Memory = Unit {0}
Counts n (stop.Syntax left) = left ≤ n
Counts n (stop.TooDeep left) = left ≤ n
