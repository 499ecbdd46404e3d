-- Where a token ends.
use Rattle.std.proofs.Common.{◌≡◌, ℕ, suc, ◌<◌, ◌≤◌, Bool, true, false, not, ◌&&◌, ◌||◌, ◌==◌, List, [], ◌∷◌, ◌++◌, length, take, refl, ap, ◌∙◌, arith, Ok}
use Rattle.std.specs.Prelude.{nat_lt, codes}
use Rattle.std.specs.List.{list_all}
use Rattle.std.specs.Fmt.{decimal}
use Rattle.std.specs.Str.Parse.{digits_value, AllDigits}
use Rattle.std.specs.Char.{digit_value}
use Rattle.std.proofs.lemmas.Fmt.{decimal_is_IsNumeral}
use Rattle.std.proofs.lemmas.Bool.Decides.{nat_tests}
use Rattle.asm_lex.specs.declared.token.Kind.{Kind}
use Rattle.asm_lex.specs.declared.token.Kind.TheVariants as token_kind
use Rattle.asm_lex.specs.declared.piece.Piece.TheVariants as piece_of
use Rattle.asm_lex.specs.Cut.{is_letter, is_digit, is_blank, in_word, is_word, is_variable, is_number, is_sign, begins_pair, run_of, first_piece, greatest_number}
use Rattle.asm_lex.proofs.Pieces.{front_word, front_number, front_variable, front_pair, front_sign, front_slash, front_last_slash}

-- before this text the token of these bytes ends
pub record Ends (w r : List ℕ) : Type 0 where
  pub kind : Kind
  pub first : (at : ℕ) → first_piece at (w ++ r) ≡ Ok (length w, piece_of.Token kind)

-- no token goes on with this text
abbrev pub breaks : List ℕ → Bool
breaks [] = true
breaks (b ∷ bs) = not (in_word b) && (not (b == 61) && (not (b == 62) && (not (b == 46) && (not (b == 47) && not (b == 42)))))

-- the token ends before each text with which no token goes on
pub record Stops (w : List ℕ) : Type 0 where
  pub ends : (r : List ℕ) → breaks r ≡ true → Ends w r

-- the token ends before each text
pub record Free (w : List ℕ) : Type 0 where
  pub ends : (r : List ℕ) → Ends w r

and_left : (x y : Bool) → (x && y) ≡ true → x ≡ true
and_left true y h = refl
and_left false y h = absurd (cc)

and_right : (x y : Bool) → (x && y) ≡ true → y ≡ true
and_right true y h = h
and_right false y h = absurd (cc)

not_true : (x : Bool) → not x ≡ true → x ≡ false
not_true false h = refl
not_true true h = absurd (cc)

or_right : (x y z : Bool) → (x || (y || z)) ≡ false → y ≡ false
or_right false false z h = refl
or_right false true z h = absurd (cc)
or_right true y z h = absurd (cc)

pub no_word : (b : ℕ) (bs : List ℕ) → breaks (b ∷ bs) ≡ true → in_word b ≡ false
no_word b bs h = not_true (in_word b) (and_left (not (in_word b)) _ h)

pub no_digit : (b : ℕ) → in_word b ≡ false → is_digit b ≡ false
no_digit b h = or_right (is_letter b) (is_digit b) (b == 95) h

-- the first byte fails the test
abbrev pub begins_not : (ℕ → Bool) → List ℕ → Bool
begins_not f [] = true
begins_not f (b ∷ bs) = not (f b)

run_is : (f : ℕ → Bool) (v r : List ℕ) → list_all f v ≡ true → begins_not f r ≡ true → run_of f (v ++ r) ≡ length v
run_is f [] [] h n = refl
run_is f [] (b ∷ r) h n = let e : f b ≡ false = not_true (f b) n in rw e refl
run_is f (b ∷ v) r h n = let e : f b ≡ true = and_left (f b) (list_all f v) h in rw e (ap suc (run_is f v r (and_right (f b) (list_all f v) h) n))

pub breaks_word : (r : List ℕ) → breaks r ≡ true → begins_not in_word r ≡ true
breaks_word [] h = refl
breaks_word (b ∷ r) h = and_left (not (in_word b)) _ h

-- ---- words and variables

pub word_ends : (w r : List ℕ) → is_word w ≡ true → begins_not in_word r ≡ true → Ends w r
word_ends [] r h n = absurd (cc)
word_ends (b ∷ v) r h n = record {
  kind = token_kind.Word;
  first = λ at.
      let e = run_is in_word v r (and_right (is_letter b) (list_all in_word v) h) n in
      front_word at b (v ++ r) (and_left (is_letter b) (list_all in_word v) h) ∙ ap (λ (k : ℕ). Ok (suc k, piece_of.Token token_kind.Word)) e;
}

pub word_stops : (w : List ℕ) → is_word w ≡ true → Stops w
word_stops w h = record { ends = λ r n. word_ends w r h (breaks_word r n) }

same_byte : (b c : ℕ) → (b == c) ≡ true → b ≡ c
same_byte b c h = grind (arith, nat_tests)

variable_ends : (b : ℕ) (v r : List ℕ) → (b == 36) ≡ true → is_word v ≡ true → begins_not in_word r ≡ true → Ends (b ∷ v) r
variable_ends b [] r e h n = absurd (cc)
variable_ends b (c ∷ v) r e h n = record {
  kind = token_kind.Variable;
  first = λ at.
      let i : b ≡ 36 = same_byte b 36 e in
      let k = run_is in_word v r (and_right (is_letter c) (list_all in_word v) h) n in
      rw i (front_variable at c (v ++ r) (and_left (is_letter c) (list_all in_word v) h) ∙ ap (λ (k : ℕ). Ok (suc (suc k), piece_of.Token token_kind.Variable)) k);
}

pub variable_stops : (w : List ℕ) → is_variable w ≡ true → Stops w
variable_stops [] h = absurd (cc)
variable_stops (b ∷ v) h = record { ends = λ r n. variable_ends b v r (and_left (b == 36) (is_word v) h) (and_right (b == 36) (is_word v) h) (breaks_word r n) }

-- ---- numbers

take_front : (v r : List ℕ) → take (length v) (v ++ r) ≡ v
take_front [] r = refl
take_front (b ∷ v) r = ap (λ z. b ∷ z) (take_front v r)

digit_no_letter : (b : ℕ) → is_digit b ≡ true → is_letter b ≡ false
digit_no_letter b h = grind (arith, nat_tests)

pub number_ends : (w r : List ℕ) → is_number w ≡ true → nat_lt greatest_number (digits_value 10 w) ≡ false → begins_not is_digit r ≡ true → Ends w r
number_ends [] r h s n = absurd (cc)
number_ends (b ∷ v) r h s n = record {
  kind = token_kind.Number;
  first = λ at.
      let d : is_digit b ≡ true = and_left (is_digit b) (list_all is_digit v) h in
      let e = run_is is_digit v r (and_right (is_digit b) (list_all is_digit v) h) n in
      let t : take (run_of is_digit (v ++ r)) (v ++ r) ≡ v = ap (λ (k : ℕ). take k (v ++ r)) e ∙ take_front v r in
      front_number at b (v ++ r) (digit_no_letter b d) d (ap (λ z. nat_lt greatest_number (digits_value 10 (b ∷ z))) t ∙ s) ∙ ap (λ (k : ℕ). Ok (suc k, piece_of.Token token_kind.Number)) e;
}

breaks_digit : (r : List ℕ) → breaks r ≡ true → begins_not is_digit r ≡ true
breaks_digit [] h = refl
breaks_digit (b ∷ r) h = ap not (no_digit b (no_word b r h))

digit_is : (c : ℕ) → digit_value c < 10 → is_digit c ≡ true
digit_is c h = grind (arith, nat_tests)

digits_are : (v : List ℕ) → AllDigits 10 v → list_all is_digit v ≡ true
digits_are [] h = refl
digits_are (c ∷ v) h = let e : is_digit c ≡ true = digit_is c h.0 in rw e (digits_are v h.1)

number_of : (v : List ℕ) → 0 < length v → AllDigits 10 v → is_number v ≡ true
number_of [] l a = absurd (omega arith)
number_of (c ∷ v) l a = digits_are (c ∷ v) a

pub decimal_number : (n : ℕ) → n ≤ greatest_number → is_number (decimal n) ≡ true
decimal_number n le = let d = decimal_is_IsNumeral n (omega arith) in number_of (decimal n) d.0.0 d.0.1

pub decimal_value : (n : ℕ) → n ≤ greatest_number → digits_value 10 (decimal n) ≡ n
decimal_value n le = (decimal_is_IsNumeral n (omega arith)).1

pub decimal_small : (n : ℕ) → n ≤ greatest_number → nat_lt greatest_number (digits_value 10 (decimal n)) ≡ false
decimal_small n le = ap (nat_lt greatest_number) (decimal_value n le) ∙ grind (arith, nat_tests)

pub decimal_stops : (n : ℕ) → n ≤ greatest_number → Stops (decimal n)
decimal_stops n le = record { ends = λ r h. number_ends (decimal n) r (decimal_number n le) (decimal_small n le) (breaks_digit r h) }

-- ---- symbols

-- the byte is no first of another kind of piece
abbrev pub begins_symbol : ℕ → Bool
begins_symbol b = not (is_letter b) && (not (is_digit b) && (not (is_blank b) && (not (b == 36) && not (b == 47))))

sign_ends : (b : ℕ) (r : List ℕ) → begins_symbol b ≡ true → is_sign b ≡ true → begins_pair b r ≡ false → Ends (b ∷ []) r
sign_ends b r h s p = record {
  kind = token_kind.Symbol;
  first = λ at.
      let a = and_right (not (is_letter b)) _ h in
      let c = and_right (not (is_digit b)) _ a in
      let d = and_right (not (is_blank b)) _ c in
      front_sign at b r (not_true (is_letter b) (and_left (not (is_letter b)) _ h)) (not_true (is_digit b) (and_left (not (is_digit b)) _ a)) (not_true (is_blank b) (and_left (not (is_blank b)) _ c))
      (not_true (b == 36) (and_left (not (b == 36)) _ d)) (not_true (b == 47) (and_right (not (b == 36)) _ d)) p s;
}

pair_ends : (b c : ℕ) (r : List ℕ) → begins_symbol b ≡ true → begins_pair b (c ∷ r) ≡ true → Ends (b ∷ c ∷ []) r
pair_ends b c r h p = record {
  kind = token_kind.Symbol;
  first = λ at.
      let a = and_right (not (is_letter b)) _ h in
      let e = and_right (not (is_digit b)) _ a in
      let d = and_right (not (is_blank b)) _ e in
      front_pair at b (c ∷ r) (not_true (is_letter b) (and_left (not (is_letter b)) _ h)) (not_true (is_digit b) (and_left (not (is_digit b)) _ a)) (not_true (is_blank b) (and_left (not (is_blank b)) _ e))
      (not_true (b == 36) (and_left (not (b == 36)) _ d)) (not_true (b == 47) (and_right (not (b == 36)) _ d)) p;
}

pub pair_free : (b c : ℕ) → begins_symbol b ≡ true → ((r : List ℕ) → begins_pair b (c ∷ r) ≡ true) → Free (b ∷ c ∷ [])
pair_free b c h p = record { ends = λ r. pair_ends b c r h (p r) }

pub sign_free : (b : ℕ) → begins_symbol b ≡ true → is_sign b ≡ true → ((c : ℕ) (r : List ℕ) → begins_pair b (c ∷ r) ≡ false) → Free (b ∷ [])
sign_free b h s p = record { ends = λ r. sign_ends b r h s (go r) }
  where
    go : (r : List ℕ) → begins_pair b r ≡ false
    go [] = refl
    go (c ∷ r) = p c r

pub sign_stops : (b : ℕ) → begins_symbol b ≡ true → is_sign b ≡ true → ((c : ℕ) (r : List ℕ) → breaks (c ∷ r) ≡ true → begins_pair b (c ∷ r) ≡ false) → Stops (b ∷ [])
sign_stops b h s p = record { ends = λ r n. sign_ends b r h s (go r n) }
  where
    go : (r : List ℕ) → breaks r ≡ true → begins_pair b r ≡ false
    go [] n = refl
    go (c ∷ r) n = p c r n

pub stops : {w : List ℕ} → Free w → Stops w
stops {w} f = record { ends = λ r n. f.ends r }

module _ (c : ℕ) (r : List ℕ) (h : breaks (c ∷ r) ≡ true) where
  behind_word : (not (c == 61) && (not (c == 62) && (not (c == 46) && (not (c == 47) && not (c == 42))))) ≡ true
  behind_word = and_right (not (in_word c)) _ h

  pub no_equal : (c == 61) ≡ false
  no_equal = not_true (c == 61) (and_left (not (c == 61)) _ behind_word)

  pub no_greater : (c == 62) ≡ false
  no_greater = not_true (c == 62) (and_left (not (c == 62)) _ (and_right (not (c == 61)) _ behind_word))

  pub no_dot : (c == 46) ≡ false
  no_dot = not_true (c == 46) (and_left (not (c == 46)) _ (and_right (not (c == 62)) _ (and_right (not (c == 61)) _ behind_word)))

pub free_open : Free (codes "(")
free_open = sign_free 40 refl refl (λ c r. refl)

pub free_close : Free (codes ")")
free_close = sign_free 41 refl refl (λ c r. refl)

pub free_bracket : Free (codes "[")
free_bracket = sign_free 91 refl refl (λ c r. refl)

pub free_close_bracket : Free (codes "]")
free_close_bracket = sign_free 93 refl refl (λ c r. refl)

pub free_brace : Free (codes "{")
free_brace = sign_free 123 refl refl (λ c r. refl)

pub free_close_brace : Free (codes "}")
free_close_brace = sign_free 125 refl refl (λ c r. refl)

pub free_comma : Free (codes ",")
free_comma = sign_free 44 refl refl (λ c r. refl)

pub free_bar : Free (codes "|")
free_bar = sign_free 124 refl refl (λ c r. refl)

pub free_equal : Free (codes "=")
free_equal = sign_free 61 refl refl (λ c r. refl)

pub free_plus : Free (codes "+")
free_plus = sign_free 43 refl refl (λ c r. refl)

pub free_times : Free (codes "*")
free_times = sign_free 42 refl refl (λ c r. refl)

pub free_assign : Free (codes ":=")
free_assign = pair_free 58 61 refl (λ r. refl)

pub free_arrow : Free (codes "->")
free_arrow = pair_free 45 62 refl (λ r. refl)

pub free_not_equal : Free (codes "!=")
free_not_equal = pair_free 33 61 refl (λ r. refl)

pub free_less_equal : Free (codes "<=")
free_less_equal = pair_free 60 61 refl (λ r. refl)

pub free_greater_equal : Free (codes ">=")
free_greater_equal = pair_free 62 61 refl (λ r. refl)

pub free_to : Free (codes "..")
free_to = pair_free 46 46 refl (λ r. refl)

pub stops_colon : Stops (codes ":")
stops_colon = sign_stops 58 refl refl (λ c r n. let e = no_equal c r n in rw e refl)

pub stops_less : Stops (codes "<")
stops_less = sign_stops 60 refl refl (λ c r n. let e = no_equal c r n in rw e refl)

pub stops_greater : Stops (codes ">")
stops_greater = sign_stops 62 refl refl (λ c r n. let e = no_equal c r n in rw e refl)

pub stops_minus : Stops (codes "-")
stops_minus = sign_stops 45 refl refl (λ c r n. let e = no_greater c r n in rw e refl)

-- `-` before anything but `>`
pub minus_ends : (r : List ℕ) → begins_not (λ c. c == 62) r ≡ true → Ends (codes "-") r
minus_ends [] h = sign_ends 45 [] refl refl refl
minus_ends (c ∷ r) h = let e : (c == 62) ≡ false = not_true (c == 62) h in sign_ends 45 (c ∷ r) refl refl (rw e refl)

-- `.` before anything but `.`
pub dot_ends : (r : List ℕ) → begins_not (λ c. c == 46) r ≡ true → Ends (codes ".") r
dot_ends [] h = sign_ends 46 [] refl refl refl
dot_ends (c ∷ r) h = let e : (c == 46) ≡ false = not_true (c == 46) h in sign_ends 46 (c ∷ r) refl refl (rw e refl)

-- `/` before anything but `/` and `*`
pub slash_ends : (r : List ℕ) → begins_not (λ c. (c == 47) || (c == 42)) r ≡ true → Ends (codes "/") r
slash_ends [] h = record { kind = token_kind.Symbol; first = λ at. front_last_slash at [] (omega arith) }
slash_ends (c ∷ r) h = go (c == 47) (c == 42) refl refl (not_true ((c == 47) || (c == 42)) h)
  where
    go : (x y : Bool) → (c == 47) ≡ x → (c == 42) ≡ y → (x || y) ≡ false → Ends (codes "/") (c ∷ r)
    go false false e f g = record { kind = token_kind.Symbol; first = λ at. front_slash at c r e f }
    go false true e f g = absurd (cc)
    go true y e f g = absurd (cc)
