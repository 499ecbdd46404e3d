-- The tokens of a text: at each place the longest piece is taken, which is a token or stands between tokens.
use Rattle.std.specs.Prelude.{◌≡◌, ◌≢◌, ℕ, zero, suc, ◌+◌, ◌-◌, List, [], ◌∷◌, length, take, Bool, false, not, ◌||◌, ◌&&◌, ◌==◌, if◌then◌else◌, nat_lt, ◌<◌, ◌≤◌, slice_range, Option, Some, None, is_some, Result, Ok, Err, codes}
use Rattle.std.specs.Prelude.{nat_eq}
use Rattle.std.specs.Str.{bytes_eq}
use Rattle.std.specs.Str.Parse.{digits_value}
use Rattle.std.specs.List.{list_all, list_any}
use Rattle.asm_lex.specs.declared.token.Token.{Token}
use Rattle.asm_lex.specs.declared.token.Kind.TheVariants.{Word, Variable, Number, Symbol}
use Rattle.asm_lex.specs.declared.piece.Piece.{Piece}
use Rattle.asm_lex.specs.declared.piece.Piece.TheVariants as piece_of
use Rattle.asm_lex.specs.declared.piece.Run.{Run}
use Rattle.asm_lex.specs.declared.piece.Run.TheVariants as run
use Rattle.asm_lex.specs.declared.error.LexError.{LexError}
use Rattle.asm_lex.specs.declared.error.LexError.TheVariants.{BadByte, OpenComment, NumberTooBig, Memory}

-- ---- bytes

-- space, tab, carriage return, line feed
abbrev pub is_blank : ℕ → Bool
is_blank b = (b == 32) || ((b == 9) || ((b == 13) || (b == 10)))

abbrev pub is_between : ℕ → ℕ → ℕ → Bool
is_between low high b = not (nat_lt b low) && not (nat_lt high b)

-- `a` to `z` and `A` to `Z`
abbrev pub is_letter : ℕ → Bool
is_letter b = is_between 97 122 b || is_between 65 90 b

abbrev pub is_digit : ℕ → Bool
is_digit b = is_between 48 57 b

-- a letter, a digit or `_`
abbrev pub in_word : ℕ → Bool
in_word b = is_letter b || (is_digit b || (b == 95))

-- no line feed
abbrev pub in_line : ℕ → Bool
in_line b = not (b == 10)

-- ---- tokens

abbrev pub is_word : List ℕ → Bool
is_word [] = false
is_word (b ∷ bs) = is_letter b && list_all in_word bs

-- `$` and a word
abbrev pub is_variable : List ℕ → Bool
is_variable [] = false
is_variable (b ∷ bs) = (b == 36) && is_word bs

abbrev pub is_number : List ℕ → Bool
is_number [] = false
is_number (b ∷ bs) = is_digit b && list_all is_digit bs

-- a symbol of one byte
abbrev pub is_sign : ℕ → Bool
is_sign b = list_any (nat_eq b) (codes "{}()[],:;=<>+-*/.|")

-- a symbol of two bytes
abbrev pub is_pair : ℕ → ℕ → Bool
is_pair b c = list_any (bytes_eq (b ∷ (c ∷ []))) (codes ":=" ∷ (codes "->" ∷ (codes "!=" ∷ (codes "<=" ∷ (codes ">=" ∷ (codes ".." ∷ []))))))

abbrev pub is_symbol : List ℕ → Bool
is_symbol [] = false
is_symbol (b ∷ []) = is_sign b
is_symbol (b ∷ (c ∷ [])) = is_pair b c
is_symbol (b ∷ (c ∷ (d ∷ bs))) = false

-- ---- what stands between tokens

-- one blank
abbrev pub is_blanks : List ℕ → Bool
is_blanks [] = false
is_blanks (b ∷ []) = is_blank b
is_blanks (b ∷ (c ∷ bs)) = false

-- `*/` stands first
abbrev pub begins_close : List ℕ → Bool
begins_close [] = false
begins_close (b ∷ []) = false
begins_close (b ∷ (c ∷ bs)) = (b == 42) && (c == 47)

-- `*/` stands somewhere
abbrev pub closes : List ℕ → Bool
closes [] = false
closes (b ∷ bs) = begins_close (b ∷ bs) || closes bs

-- `*/` stands at the end, and nowhere before
abbrev pub ends_comment : List ℕ → Bool
ends_comment bs = closes bs && not (closes (take (length bs - 1) bs))

-- behind `/`: a second `/` and bytes without a line feed, or `*` and bytes up to the first `*/`
abbrev pub is_comment_behind : List ℕ → Bool
is_comment_behind [] = false
is_comment_behind (b ∷ bs) = ((b == 47) && list_all in_line bs) || ((b == 42) && ends_comment bs)

abbrev pub is_comment : List ℕ → Bool
is_comment [] = false
is_comment (b ∷ bs) = (b == 47) && is_comment_behind bs

abbrev pub is_gap : List ℕ → Bool
is_gap w = is_blanks w || is_comment w

-- ---- pieces

-- what exactly these bytes are, if they are one piece
abbrev pub piece : List ℕ → Option Piece
piece w =
    if is_word w then Some (piece_of.Token Word)
    else (if is_variable w then Some (piece_of.Token Variable)
    else (if is_number w then Some (piece_of.Token Number)
    else (if is_gap w then Some piece_of.Gap
    else (if is_symbol w then Some (piece_of.Token Symbol)
    else None))))

-- the greatest length, up to n, of a front that is a piece, and 0 where none is
abbrev pub longest : ℕ → List ℕ → ℕ
longest zero bs = 0
longest (suc n) bs = if is_some (piece (take (suc n) bs)) then suc n else longest n bs

abbrev pub sized : ℕ → Option Piece → Option (ℕ × Piece)
sized n None = None
sized n (Some p) = Some (n, p)

abbrev pub front_of : ℕ → List ℕ → Option (ℕ × Piece)
front_of n bs = sized n (piece (take n bs))

-- the longest piece at the front, with its length
unfoldable pub longest_piece : List ℕ → Option (ℕ × Piece)
longest_piece bs = front_of (longest (length bs) bs) bs

-- ---- refusals

-- behind `/`: `*`, and no `*/` after it
abbrev pub is_open_behind : List ℕ → Bool
is_open_behind [] = false
is_open_behind (b ∷ bs) = (b == 42) && not (closes bs)

-- a comment begins and is never closed
abbrev pub is_open : List ℕ → Bool
is_open [] = false
is_open (b ∷ bs) = (b == 47) && is_open_behind bs

-- 2 to the power 31
abbrev pub greatest_number : ℕ
greatest_number = 2147483648

-- a number above the greatest
abbrev pub is_too_big : Piece → List ℕ → Bool
is_too_big piece_of.Gap w = false
is_too_big (piece_of.Token Word) w = false
is_too_big (piece_of.Token Variable) w = false
is_too_big (piece_of.Token Number) w = nat_lt greatest_number (digits_value 10 w)
is_too_big (piece_of.Token Symbol) w = false

-- a piece stands at the place, and is no number above the greatest
abbrev pub judged : ℕ → List ℕ → Option (ℕ × Piece) → Result (ℕ × Piece) LexError
judged at bs None = Err (BadByte at)
judged at bs (Some (n, p)) = if is_too_big p (take n bs) then Err (NumberTooBig at) else Ok (n, p)

-- the piece that is taken at the place, with its length, or why none is
unfoldable pub first_piece : ℕ → List ℕ → Result (ℕ × Piece) LexError
first_piece at bs = if is_open bs then Err (OpenComment at) else judged at bs (longest_piece bs)

-- ---- measures of the front

-- how many bytes at the front pass the test
abbrev pub run_of : (ℕ → Bool) → List ℕ → ℕ
run_of f [] = 0
run_of f (b ∷ bs) = if f b then suc (run_of f bs) else 0

-- with which bytes it goes on
abbrev pub goes_on : Run → ℕ → Bool
goes_on run.Word = in_word
goes_on run.Number = is_digit
goes_on run.Line = in_line

abbrev pub further : Option ℕ → Option ℕ
further None = None
further (Some n) = Some (suc n)

-- how many bytes at the front reach to the end of the first `*/`
abbrev pub up_to_close : List ℕ → Option ℕ
up_to_close [] = None
up_to_close (b ∷ bs) = if begins_close (b ∷ bs) then Some 2 else further (up_to_close bs)

-- the byte and the next are a symbol
abbrev pub begins_pair : ℕ → List ℕ → Bool
begins_pair b [] = false
begins_pair b (c ∷ bs) = is_pair b c

-- ---- the cut

abbrev pub Cut : Type 0
Cut = Result (List Token) LexError

abbrev pub onto : Token → Cut → Cut
onto t (Ok ts) = Ok (t ∷ ts)
onto t (Err e) = Err e

-- the piece at the place, and then the rest, of which so many bytes belong to the piece
abbrev pub taken : ℕ → Result (ℕ × Piece) LexError → (ℕ → Cut) → Cut
taken at (Err e) rest = Err e
taken at (Ok (n, piece_of.Gap)) rest = rest (n - 1)
taken at (Ok (n, piece_of.Token kind)) rest = onto (record { kind = kind; from = at; to = at + n }) (rest (n - 1))

-- the tokens from the place on, where the next so many bytes belong to the piece before
abbrev pub cut_from : ℕ → ℕ → List ℕ → Cut
cut_from at inside [] = Ok []
cut_from at zero (b ∷ bs) = taken at (first_piece at (b ∷ bs)) (λ n. cut_from (suc at) n bs)
cut_from at (suc n) (b ∷ bs) = cut_from (suc at) n bs

-- the tokens of a text, or what is wrong at the first place where no piece is taken
unfoldable pub cut : List ℕ → Cut
cut bs = cut_from 0 0 bs

-- It is the cut, unless memory ran out.
abbrev pub GivesCut : Result (List Token) LexError → Cut → Type 0
GivesCut (Ok ts) c = c ≡ Ok ts
GivesCut (Err e) c = e ≢ Memory → c ≡ Err e

-- ---- where tokens stand

-- the token is a piece of the text
pub record IsIn (text : List ℕ) (t : Token) : Type 0 where
  pub some : t.from < t.to
  pub within : t.to ≤ length text
  pub form : piece (slice_range text t.from t.to) ≡ Some (piece_of.Token t.kind)

abbrev pub AreIn : List ℕ → List Token → Type 0
AreIn text [] = Unit {0}
AreIn text (t ∷ ts) = IsIn text t × AreIn text ts
