-- The longest piece at the front of a text.
use Rattle.std.proofs.Common.{◌≡◌, ℕ, zero, suc, ◌+◌, ◌-◌, ◌<◌, ◌≤◌, ◌==◌, ◌⊎◌, inl, inr, Bool, true, false, not, ◌&&◌, ◌||◌, List, [], ◌∷◌, Option, Some, None, Ok, Err, refl, sym, ap, ◌∙◌, subst, arith, length, take, drop, get_or, ltb}
use Rattle.std.specs.Prelude.{is_some, nat_lt}
use Rattle.std.specs.Str.Parse.{digits_value}
use Rattle.std.specs.List.{list_all}
use Rattle.std.proofs.lemmas.Bool.{eqb-true, ltb-true, ltb-false}
use Rattle.asm_lex.specs.declared.token.Kind.TheVariants.{Word, Variable, Number, Symbol}
use Rattle.asm_lex.specs.declared.piece.Piece.{Piece}
use Rattle.asm_lex.specs.declared.piece.Piece.TheVariants as piece_of
use Rattle.asm_lex.specs.declared.error.LexError.TheVariants.{BadByte, OpenComment, NumberTooBig}
use Rattle.asm_lex.specs.Cut.{is_letter, is_digit, is_blank, in_word, in_line, is_word, is_variable, is_number, is_sign, is_pair, is_symbol, is_gap, begins_close, closes, ends_comment, is_open, greatest_number, is_too_big, piece, longest, longest_piece, first_piece, run_of, further, up_to_close, begins_pair}

true_or_false : (a : Bool) → (a ≡ true) ⊎ (a ≡ false)
true_or_false true = inl refl
true_or_false false = inr refl

and_false : (a b : Bool) → a ≡ false → (a && b) ≡ false
and_false true b h = absurd (cc)
and_false false b h = refl

and_right_false : (a b : Bool) → b ≡ false → (a && b) ≡ false
and_right_false true b h = h
and_right_false false b h = refl

-- no front longer than m is a piece
abbrev pub IsLongest : ℕ → List ℕ → Type 0
IsLongest m bs = (n : ℕ) → m < n → n ≤ length bs → is_some (piece (take n bs)) ≡ false

longest_found : (m : ℕ) (bs : List ℕ) → is_some (piece (take m bs)) ≡ true → IsLongest m bs → (n : ℕ) → m ≤ n → n ≤ length bs → longest n bs ≡ m
longest_found m bs h l zero le r = omega arith
longest_found m bs h l (suc n) le r = elim (true_or_false (ltb m (suc n))) [
  | inl e ↦ (let lt = ltb-true m (suc n) e in let f : is_some (piece (take (suc n) bs)) ≡ false = l (suc n) lt r in rw f (longest_found m bs h l n (omega arith) (omega arith)))
  | inr e ↦ (let ge = ltb-false m (suc n) e in let same : m ≡ suc n = omega arith in let f : is_some (piece (take (suc n) bs)) ≡ true = subst (λ (k : ℕ). is_some (piece (take k bs)) ≡ true) same h in rw f (sym same))
]

longest_none : (bs : List ℕ) → IsLongest 0 bs → (n : ℕ) → n ≤ length bs → longest n bs ≡ 0
longest_none bs l zero r = refl
longest_none bs l (suc n) r = let f : is_some (piece (take (suc n) bs)) ≡ false = l (suc n) (omega arith) r in rw f (longest_none bs l n (omega arith))

pub piece_found : (m : ℕ) (p : Piece) (bs : List ℕ) → piece (take m bs) ≡ Some p → m ≤ length bs → IsLongest m bs → longest_piece bs ≡ Some (m, p)
unfolding longest_piece
piece_found m p bs h le l =
    let s : is_some (piece (take m bs)) ≡ true = rw h refl in
    let e : longest (length bs) bs ≡ m = longest_found m bs s l (length bs) le (omega arith) in
    rw (e, h) refl

pub piece_none : (bs : List ℕ) → IsLongest 0 bs → longest_piece bs ≡ None
unfolding longest_piece
piece_none bs l = let e : longest (length bs) bs ≡ 0 = longest_none bs l (length bs) (omega arith) in rw e refl

-- ---- what is taken

takes : (at n : ℕ) (p : Piece) (bs : List ℕ) → is_open bs ≡ false → longest_piece bs ≡ Some (n, p) → is_too_big p (take n bs) ≡ false → first_piece at bs ≡ Ok (n, p)
unfolding first_piece
takes at n p bs o e b = rw (o, e, b) refl

refuses_number : (at n : ℕ) (p : Piece) (bs : List ℕ) → is_open bs ≡ false → longest_piece bs ≡ Some (n, p) → is_too_big p (take n bs) ≡ true → first_piece at bs ≡ Err (NumberTooBig at)
unfolding first_piece
refuses_number at n p bs o e b = rw (o, e, b) refl

refuses_byte : (at : ℕ) (bs : List ℕ) → is_open bs ≡ false → longest_piece bs ≡ None → first_piece at bs ≡ Err (BadByte at)
unfolding first_piece
refuses_byte at bs o e = rw (o, e) refl

refuses_comment : (at : ℕ) (bs : List ℕ) → is_open bs ≡ true → first_piece at bs ≡ Err (OpenComment at)
unfolding first_piece
refuses_comment at bs o = rw o refl

-- ---- bytes

differs : (f : ℕ → Bool) (b k : ℕ) → f b ≡ true → f k ≡ false → (b == k) ≡ false
differs f b k h g = elim (true_or_false (b == k)) [ inl e ↦ (let i : f k ≡ true = subst (λ (n : ℕ). f n ≡ true) (eqb-true b k e) h in absurd (cc)) | inr e ↦ e ]

letter_no_digit : (b : ℕ) → is_letter b ≡ true → is_digit b ≡ false
letter_no_digit b h = go (ltb b 48) (ltb 57 b) (ltb b 97) (ltb 122 b) (ltb b 65) (ltb 90 b) refl refl refl refl refl refl h
  where
    go : (a c d e f g : Bool) → ltb b 48 ≡ a → ltb 57 b ≡ c → ltb b 97 ≡ d → ltb 122 b ≡ e → ltb b 65 ≡ f → ltb 90 b ≡ g → ((not d && not e) || (not f && not g)) ≡ true → (not a && not c) ≡ false
    go true c d e f g i j k l m n h = refl
    go false true d e f g i j k l m n h = refl
    go false false false e f g i j k l m n h = let u = ltb-false 57 b j in let v = ltb-false b 97 k in absurd (omega arith)
    go false false true e false g i j k l m n h = let u = ltb-false 57 b j in let v = ltb-false b 65 m in absurd (omega arith)
    go false false true e true g i j k l m n h = absurd (cc (h))

-- no symbol of two bytes begins with such a byte
no_pair : (f : ℕ → Bool) (b : ℕ) → f b ≡ true → f 58 ≡ false → f 45 ≡ false → f 33 ≡ false → f 60 ≡ false → f 62 ≡ false → f 46 ≡ false → (c : ℕ) → is_pair b c ≡ false
no_pair f b h i j k l m n c = rw (differs f b 58 h i, differs f b 45 h j, differs f b 33 h k, differs f b 60 h l, differs f b 62 h m, differs f b 46 h n) refl

no_symbol : (b c : ℕ) (w : List ℕ) → is_pair b c ≡ false → is_symbol (b ∷ (c ∷ w)) ≡ false
no_symbol b c [] h = h
no_symbol b c (d ∷ w) h = refl

no_open : (b : ℕ) (r : List ℕ) → (b == 47) ≡ false → is_open (b ∷ r) ≡ false
no_open b r h = rw h refl

-- ---- no piece

no_piece : (w : List ℕ) → is_word w ≡ false → is_variable w ≡ false → is_number w ≡ false → is_gap w ≡ false → is_symbol w ≡ false → is_some (piece w) ≡ false
no_piece w a b c d e = rw (a, b, c, d, e) refl

no_gap : (b c : ℕ) (w : List ℕ) → (b == 47) ≡ false → is_gap (b ∷ (c ∷ w)) ≡ false
no_gap b c w h = rw h refl

-- ---- runs

pub all_run : (f : ℕ → Bool) (r : List ℕ) → list_all f (take (run_of f r) r) ≡ true
all_run f [] = refl
all_run f (b ∷ r) = elim (true_or_false (f b)) [ inl e ↦ rw (e, e) (all_run f r) | inr e ↦ rw e refl ]

not_all : (f : ℕ → Bool) (n : ℕ) (r : List ℕ) → run_of f r < n → n ≤ length r → list_all f (take n r) ≡ false
not_all f zero r lt le = absurd (omega arith)
not_all f (suc n) [] lt le = absurd (omega arith)
not_all f (suc n) (b ∷ r) lt le = elim (true_or_false (f b)) [
  | inl e ↦ (let more : suc (run_of f r) < suc n = subst (λ (k : ℕ). k < suc n) (rw e refl) lt in rw e (not_all f n r (omega arith) (omega arith)))
  | inr e ↦ rw e refl
]

run_within : (f : ℕ → Bool) (r : List ℕ) → run_of f r ≤ length r
run_within f [] = omega arith
run_within f (b ∷ r) = elim (true_or_false (f b)) [ inl e ↦ rw e (omega (arith, run_within f r)) | inr e ↦ rw e (omega arith) ]

-- ---- words

longer_word : (b : ℕ) (n : ℕ) (r : List ℕ) → is_letter b ≡ true → run_of in_word r < n → n ≤ length r → is_some (piece (take (suc n) (b ∷ r))) ≡ false
longer_word b zero r h lt le = absurd (omega arith)
longer_word b (suc n) [] h lt le = absurd (omega arith)
longer_word b (suc n) (c ∷ r) h lt le =
    no_piece (b ∷ (c ∷ take n r)) (and_right_false (is_letter b) _ (not_all in_word (suc n) (c ∷ r) lt le)) (and_false _ _ (differs is_letter b 36 h refl)) (and_false _ _ (letter_no_digit b h))
    (no_gap b c (take n r) (differs is_letter b 47 h refl)) (no_symbol b c (take n r) (no_pair is_letter b h refl refl refl refl refl refl c))

pub front_word : (at b : ℕ) (r : List ℕ) → is_letter b ≡ true → first_piece at (b ∷ r) ≡ Ok (suc (run_of in_word r), piece_of.Token Word)
front_word at b r h =
    takes at (suc (run_of in_word r)) (piece_of.Token Word) (b ∷ r) (no_open b r (differs is_letter b 47 h refl))
    (piece_found (suc (run_of in_word r)) (piece_of.Token Word) (b ∷ r) (rw (h, all_run in_word r) refl) (omega (arith, run_within in_word r)) longer) refl
  where
    longer : IsLongest (suc (run_of in_word r)) (b ∷ r)
    longer zero lt le = absurd (omega arith)
    longer (suc n) lt le = longer_word b n r h (omega arith) (omega arith)

pub ruleset words = (front_word)

-- ---- numbers

longer_number : (b : ℕ) (n : ℕ) (r : List ℕ) → is_letter b ≡ false → is_digit b ≡ true → run_of is_digit r < n → n ≤ length r → is_some (piece (take (suc n) (b ∷ r))) ≡ false
longer_number b zero r k h lt le = absurd (omega arith)
longer_number b (suc n) [] k h lt le = absurd (omega arith)
longer_number b (suc n) (c ∷ r) k h lt le =
    no_piece (b ∷ (c ∷ take n r)) (and_false _ _ k) (and_false _ _ (differs is_digit b 36 h refl)) (and_right_false (is_digit b) _ (not_all is_digit (suc n) (c ∷ r) lt le))
    (no_gap b c (take n r) (differs is_digit b 47 h refl)) (no_symbol b c (take n r) (no_pair is_digit b h refl refl refl refl refl refl c))

longest_number : (b : ℕ) (r : List ℕ) → is_letter b ≡ false → is_digit b ≡ true → longest_piece (b ∷ r) ≡ Some (suc (run_of is_digit r), piece_of.Token Number)
longest_number b r k h =
    let dollar : (b == 36) ≡ false = differs is_digit b 36 h refl in
    piece_found (suc (run_of is_digit r)) (piece_of.Token Number) (b ∷ r) (rw (k, dollar, h, all_run is_digit r) refl) (omega (arith, run_within is_digit r)) longer
  where
    longer : IsLongest (suc (run_of is_digit r)) (b ∷ r)
    longer zero lt le = absurd (omega arith)
    longer (suc n) lt le = longer_number b n r k h (omega arith) (omega arith)

pub front_number : (at b : ℕ) (r : List ℕ) → is_letter b ≡ false → is_digit b ≡ true → nat_lt greatest_number (digits_value 10 (b ∷ take (run_of is_digit r) r)) ≡ false → first_piece at (b ∷ r) ≡ Ok (suc (run_of is_digit r), piece_of.Token Number)
front_number at b r k h v = takes at (suc (run_of is_digit r)) (piece_of.Token Number) (b ∷ r) (no_open b r (differs is_digit b 47 h refl)) (longest_number b r k h) v

pub front_too_big : (at b : ℕ) (r : List ℕ) → is_letter b ≡ false → is_digit b ≡ true → nat_lt greatest_number (digits_value 10 (b ∷ take (run_of is_digit r) r)) ≡ true → first_piece at (b ∷ r) ≡ Err (NumberTooBig at)
front_too_big at b r k h v = refuses_number at (suc (run_of is_digit r)) (piece_of.Token Number) (b ∷ r) (no_open b r (differs is_digit b 47 h refl)) (longest_number b r k h) v

pub ruleset numbers = (front_number, front_too_big, all_run)

-- ---- variables

longer_variable : (c : ℕ) (n : ℕ) (r : List ℕ) → run_of in_word r < n → n ≤ length r → is_some (piece (take (suc (suc n)) (36 ∷ (c ∷ r)))) ≡ false
longer_variable c n r lt le = no_piece (36 ∷ (c ∷ take n r)) refl (and_right_false (is_letter c) _ (not_all in_word n r lt le)) refl refl (no_symbol 36 c (take n r) refl)

pub front_variable : (at c : ℕ) (r : List ℕ) → is_letter c ≡ true → first_piece at (36 ∷ (c ∷ r)) ≡ Ok (suc (suc (run_of in_word r)), piece_of.Token Variable)
front_variable at c r h =
    takes at (suc (suc (run_of in_word r))) (piece_of.Token Variable) (36 ∷ (c ∷ r)) refl
    (piece_found (suc (suc (run_of in_word r))) (piece_of.Token Variable) (36 ∷ (c ∷ r)) (rw (h, all_run in_word r) refl) (omega (arith, run_within in_word r)) longer) refl
  where
    longer : IsLongest (suc (suc (run_of in_word r))) (36 ∷ (c ∷ r))
    longer zero lt le = absurd (omega arith)
    longer (suc zero) lt le = absurd (omega arith)
    longer (suc (suc n)) lt le = longer_variable c n r (omega arith) (omega arith)

pub front_dollar : (at : ℕ) (r : List ℕ) → length r < 1 → first_piece at (36 ∷ r) ≡ Err (BadByte at)
front_dollar at [] lt = refuses_byte at (36 ∷ []) refl (piece_none (36 ∷ []) longer)
  where
    longer : IsLongest 0 (36 ∷ [])
    longer zero lt le = absurd (omega arith)
    longer (suc zero) lt le = refl
    longer (suc (suc n)) lt le = absurd (omega arith)
front_dollar at (c ∷ r) lt = absurd (omega arith)

pub front_no_variable : (at c : ℕ) (r : List ℕ) → is_letter c ≡ false → first_piece at (36 ∷ (c ∷ r)) ≡ Err (BadByte at)
front_no_variable at c r h = refuses_byte at (36 ∷ (c ∷ r)) refl (piece_none (36 ∷ (c ∷ r)) longer)
  where
    longer : IsLongest 0 (36 ∷ (c ∷ r))
    longer zero lt le = absurd (omega arith)
    longer (suc zero) lt le = refl
    longer (suc (suc n)) lt le = no_piece (36 ∷ (c ∷ take n r)) refl (and_false _ _ h) refl refl (no_symbol 36 c (take n r) refl)

pub front_variable_of : (at n : ℕ) (r : List ℕ) (d : ℕ) → 1 ≤ length r → is_letter (get_or r 0 d) ≡ true → n ≡ run_of in_word (drop 1 r) → Ok (2 + n, piece_of.Token Variable) ≡ first_piece at (36 ∷ r)
front_variable_of at n [] d le h e = absurd (omega arith)
front_variable_of at n (c ∷ r) d le h e = let i : 2 + n ≡ suc (suc (run_of in_word r)) = omega (arith, e) in sym (front_variable at c r h ∙ ap (λ (m : ℕ). Ok (m, piece_of.Token Variable)) (sym i))

pub ruleset variables = (front_variable, front_dollar, front_no_variable)

-- ---- comments to the end of the line

longer_line : (n : ℕ) (r : List ℕ) → run_of in_line r < n → n ≤ length r → is_some (piece (take (suc (suc n)) (47 ∷ (47 ∷ r)))) ≡ false
longer_line n r lt le = let e : list_all in_line (take n r) ≡ false = not_all in_line n r lt le in no_piece (47 ∷ (47 ∷ take n r)) refl refl refl (rw e refl) (no_symbol 47 47 (take n r) refl)

pub front_line : (at : ℕ) (r : List ℕ) → first_piece at (47 ∷ (47 ∷ r)) ≡ Ok (suc (suc (run_of in_line r)), piece_of.Gap)
front_line at r =
    takes at (suc (suc (run_of in_line r))) piece_of.Gap (47 ∷ (47 ∷ r)) refl
    (piece_found (suc (suc (run_of in_line r))) piece_of.Gap (47 ∷ (47 ∷ r)) (rw (all_run in_line r) refl) (omega (arith, run_within in_line r)) longer) refl
  where
    longer : IsLongest (suc (suc (run_of in_line r))) (47 ∷ (47 ∷ r))
    longer zero lt le = absurd (omega arith)
    longer (suc zero) lt le = absurd (omega arith)
    longer (suc (suc n)) lt le = longer_line n r (omega arith) (omega arith)

-- ---- comments up to a mark

begins_take : (n : ℕ) (bs : List ℕ) → begins_close bs ≡ true → begins_close (take (suc (suc n)) bs) ≡ true
begins_take n [] h = absurd (cc)
begins_take n (b ∷ []) h = absurd (cc)
begins_take n (b ∷ (c ∷ bs)) h = h

no_begin : (n : ℕ) (bs : List ℕ) → begins_close bs ≡ false → begins_close (take n bs) ≡ false
no_begin zero bs h = refl
no_begin (suc n) [] h = refl
no_begin (suc zero) (b ∷ bs) h = refl
no_begin (suc (suc n)) (b ∷ []) h = refl
no_begin (suc (suc n)) (b ∷ (c ∷ bs)) h = h

short_begin : (n : ℕ) (bs : List ℕ) → n < 2 → closes (take n bs) ≡ false
short_begin zero bs lt = refl
short_begin (suc zero) [] lt = refl
short_begin (suc zero) (b ∷ bs) lt = refl
short_begin (suc (suc n)) bs lt = absurd (omega arith)

-- the first mark ends behind so many bytes
record Closing (k : ℕ) (bs : List ℕ) : Type 0 where
  within : k ≤ length bs
  here : (n : ℕ) → k ≤ n → closes (take n bs) ≡ true
  before : (n : ℕ) → n < k → closes (take n bs) ≡ false

two_within : (b : ℕ) (bs : List ℕ) → begins_close (b ∷ bs) ≡ true → 2 ≤ length (b ∷ bs)
two_within b [] h = absurd (cc)
two_within b (c ∷ bs) h = omega arith

closing : (bs : List ℕ) (k : ℕ) → up_to_close bs ≡ Some k → Closing k bs
closing [] k e = absurd (cc)
closing (b ∷ bs) k e = elim (true_or_false (begins_close (b ∷ bs))) [
  | inl h ↦ (let f : Some 2 ≡ Some k = rw h at e in first h (cc (f)))
  | inr h ↦ later (closing bs) h (up_to_close bs) refl (rw h at e)
]
  where
    first : begins_close (b ∷ bs) ≡ true → 2 ≡ k → Closing k (b ∷ bs)
    first h i = subst (λ (m : ℕ). Closing m (b ∷ bs)) i (record {
      within = two_within b bs h;
      here = λ n le. at_two n le;
      before = λ n lt. short_begin n (b ∷ bs) lt;
    })
      where
        at_two : (n : ℕ) → 2 ≤ n → closes (take n (b ∷ bs)) ≡ true
        at_two zero le = absurd (omega arith)
        at_two (suc zero) le = absurd (omega arith)
        at_two (suc (suc n)) le = let g : begins_close (b ∷ take (suc n) bs) ≡ true = begins_take n (b ∷ bs) h in rw g refl

    later : ((m : ℕ) → up_to_close bs ≡ Some m → Closing m bs) → begins_close (b ∷ bs) ≡ false → (o : Option ℕ) → up_to_close bs ≡ o → further o ≡ Some k → Closing k (b ∷ bs)
    later ih h None q f = absurd (cc (f))
    later ih h (Some m) q f =
        let c = ih m q in
        let i : suc m ≡ k = cc (f) in
        subst (λ (j : ℕ). Closing j (b ∷ bs)) i (record { within = omega (arith, c.within); here = here_on c; before = before_on c })
      where
        here_on : Closing m bs → (n : ℕ) → suc m ≤ n → closes (take n (b ∷ bs)) ≡ true
        here_on c zero le = absurd (omega arith)
        here_on c (suc n) le = let g : closes (take n bs) ≡ true = c.here n (omega arith) in let l : begins_close (b ∷ take n bs) ≡ false = no_begin (suc n) (b ∷ bs) h in rw (l, g) refl

        before_on : Closing m bs → (n : ℕ) → n < suc m → closes (take n (b ∷ bs)) ≡ false
        before_on c zero lt = refl
        before_on c (suc n) lt = let g : closes (take n bs) ≡ false = c.before n (omega arith) in let l : begins_close (b ∷ take n bs) ≡ false = no_begin (suc n) (b ∷ bs) h in rw (l, g) refl

take_all : (bs : List ℕ) → take (length bs) bs ≡ bs
take_all [] = refl
take_all (b ∷ bs) = ap (λ z. b ∷ z) (take_all bs)

take_take : (m n : ℕ) (bs : List ℕ) → m ≤ n → take m (take n bs) ≡ take m bs
take_take zero n bs le = refl
take_take (suc m) zero bs le = absurd (omega arith)
take_take (suc m) (suc n) [] le = refl
take_take (suc m) (suc n) (b ∷ bs) le = ap (λ z. b ∷ z) (take_take m n bs (omega arith))

length_take : (n : ℕ) (bs : List ℕ) → n ≤ length bs → length (take n bs) ≡ n
length_take zero bs le = refl
length_take (suc n) [] le = absurd (omega arith)
length_take (suc n) (b ∷ bs) le = ap suc (length_take n bs (omega arith))

without_last : (n : ℕ) (bs : List ℕ) → n ≤ length bs → take (length (take n bs) - 1) (take n bs) ≡ take (n - 1) bs
without_last n bs le = rw (length_take n bs le) (take_take (n - 1) n bs (omega arith))

closed_whole : (k : ℕ) (bs : List ℕ) → Closing k bs → closes bs ≡ true
closed_whole k bs c = subst (λ (w : List ℕ). closes w ≡ true) (take_all bs) (c.here (length bs) c.within)

positive : (k : ℕ) (bs : List ℕ) → Closing k bs → 0 < k
positive zero bs c = let e : closes (take 0 bs) ≡ true = c.here 0 (omega arith) in absurd (cc)
positive (suc k) bs c = omega arith

ends_there : (k : ℕ) (bs : List ℕ) → Closing k bs → ends_comment (take k bs) ≡ true
ends_there k bs c =
    let e : closes (take k bs) ≡ true = c.here k (omega arith) in
    let f : closes (take (length (take k bs) - 1) (take k bs)) ≡ false = rw (without_last k bs c.within) (c.before (k - 1) (omega (arith, positive k bs c))) in
    rw (e, f) refl

ends_past : (k n : ℕ) (bs : List ℕ) → Closing k bs → k < n → n ≤ length bs → ends_comment (take n bs) ≡ false
ends_past k n bs c lt le =
    let f : closes (take (length (take n bs) - 1) (take n bs)) ≡ true = rw (without_last n bs le) (c.here (n - 1) (omega arith)) in
    rw f (and_right_false _ _ refl)

never_closes : (bs : List ℕ) → up_to_close bs ≡ None → closes bs ≡ false
never_closes [] e = refl
never_closes (b ∷ bs) e = elim (true_or_false (begins_close (b ∷ bs))) [
  | inl h ↦ (let f : Some 2 ≡ None = rw h at e in absurd (cc (f)))
  | inr h ↦ (let g : closes bs ≡ false = never_closes bs (none (up_to_close bs) (rw h at e)) in rw (h, g) refl)
]
  where
    none : (o : Option ℕ) → further o ≡ None → o ≡ None
    none None f = refl
    none (Some m) f = absurd (cc (f))

pub front_comment : (at k : ℕ) (r : List ℕ) → up_to_close r ≡ Some k → first_piece at (47 ∷ (42 ∷ r)) ≡ Ok (suc (suc k), piece_of.Gap)
front_comment at k r e =
    let c = closing r k e in
    let w : closes r ≡ true = closed_whole k r c in
    let f : ends_comment (take k r) ≡ true = ends_there k r c in
    takes at (suc (suc k)) piece_of.Gap (47 ∷ (42 ∷ r)) (rw w refl)
    (piece_found (suc (suc k)) piece_of.Gap (47 ∷ (42 ∷ r)) (rw f refl) (omega (arith, c.within)) (longer c)) refl
  where
    longer : Closing k r → IsLongest (suc (suc k)) (47 ∷ (42 ∷ r))
    longer c zero lt le = absurd (omega arith)
    longer c (suc zero) lt le = absurd (omega arith)
    longer c (suc (suc n)) lt le = let f : ends_comment (take n r) ≡ false = ends_past k n r c (omega arith) (omega arith) in no_piece (47 ∷ (42 ∷ take n r)) refl refl refl (rw f refl) (no_symbol 47 42 (take n r) refl)

pub front_open : (at : ℕ) (r : List ℕ) → up_to_close r ≡ None → first_piece at (47 ∷ (42 ∷ r)) ≡ Err (OpenComment at)
front_open at r e = let f : closes r ≡ false = never_closes r e in refuses_comment at (47 ∷ (42 ∷ r)) (rw f refl)

pub front_slash : (at c : ℕ) (r : List ℕ) → (c == 47) ≡ false → (c == 42) ≡ false → first_piece at (47 ∷ (c ∷ r)) ≡ Ok (1, piece_of.Token Symbol)
front_slash at c r d e = takes at 1 (piece_of.Token Symbol) (47 ∷ (c ∷ r)) (rw e refl) (piece_found 1 (piece_of.Token Symbol) (47 ∷ (c ∷ r)) refl (omega arith) longer) refl
  where
    longer : IsLongest 1 (47 ∷ (c ∷ r))
    longer zero lt le = absurd (omega arith)
    longer (suc zero) lt le = absurd (omega arith)
    longer (suc (suc n)) lt le = no_piece (47 ∷ (c ∷ take n r)) refl refl refl (rw (d, e) refl) (no_symbol 47 c (take n r) refl)

pub front_last_slash : (at : ℕ) (r : List ℕ) → length r < 1 → first_piece at (47 ∷ r) ≡ Ok (1, piece_of.Token Symbol)
front_last_slash at [] lt = takes at 1 (piece_of.Token Symbol) (47 ∷ []) refl (piece_found 1 (piece_of.Token Symbol) (47 ∷ []) refl (omega arith) longer) refl
  where
    longer : IsLongest 1 (47 ∷ [])
    longer zero lt le = absurd (omega arith)
    longer (suc zero) lt le = absurd (omega arith)
    longer (suc (suc n)) lt le = absurd (omega arith)
front_last_slash at (c ∷ r) lt = absurd (omega arith)

pub ruleset comments = (front_line, front_comment, front_open, front_slash, front_last_slash)

-- ---- blanks and symbols

-- no token of two bytes or more begins with the byte
longer_other : (b : ℕ) (r : List ℕ) → is_letter b ≡ false → is_digit b ≡ false → (b == 36) ≡ false → (b == 47) ≡ false → begins_pair b r ≡ false → (n : ℕ) → 1 < n → n ≤ length (b ∷ r) → is_some (piece (take n (b ∷ r))) ≡ false
longer_other b r h k d e p zero lt le = absurd (omega arith)
longer_other b r h k d e p (suc zero) lt le = absurd (omega arith)
longer_other b [] h k d e p (suc (suc n)) lt le = absurd (omega arith)
longer_other b (c ∷ r) h k d e p (suc (suc n)) lt le = no_piece (b ∷ (c ∷ take n r)) (and_false _ _ h) (and_false _ _ d) (and_false _ _ k) (no_gap b c (take n r) e) (no_symbol b c (take n r) p)

pub front_blank : (at b : ℕ) (r : List ℕ) → is_letter b ≡ false → is_digit b ≡ false → is_blank b ≡ true → first_piece at (b ∷ r) ≡ Ok (1, piece_of.Gap)
front_blank at b r h k i =
    let d : (b == 36) ≡ false = differs is_blank b 36 i refl in
    let e : (b == 47) ≡ false = differs is_blank b 47 i refl in
    takes at 1 piece_of.Gap (b ∷ r) (no_open b r e) (piece_found 1 piece_of.Gap (b ∷ r) (rw (h, d, k, i) refl) (omega arith) (longer_other b r h k d e (pairs r))) refl
  where
    pairs : (r : List ℕ) → begins_pair b r ≡ false
    pairs [] = refl
    pairs (c ∷ r) = no_pair is_blank b i refl refl refl refl refl refl c

pub ruleset blanks = (front_blank)

module _ (at b : ℕ) (r : List ℕ) (h : is_letter b ≡ false) (k : is_digit b ≡ false) (i : is_blank b ≡ false) (d : (b == 36) ≡ false) (e : (b == 47) ≡ false) where
  pub front_pair : begins_pair b r ≡ true → first_piece at (b ∷ r) ≡ Ok (2, piece_of.Token Symbol)
  front_pair p = go r p
    where
      go : (r : List ℕ) → begins_pair b r ≡ true → first_piece at (b ∷ r) ≡ Ok (2, piece_of.Token Symbol)
      go [] p = absurd (cc)
      go (c ∷ r) p = takes at 2 (piece_of.Token Symbol) (b ∷ (c ∷ r)) (no_open b (c ∷ r) e) (piece_found 2 (piece_of.Token Symbol) (b ∷ (c ∷ r)) (rw (h, d, k, e) (rw p refl)) (omega arith) (longer c r)) refl
        where
          longer : (c : ℕ) (r : List ℕ) → IsLongest 2 (b ∷ (c ∷ r))
          longer c r zero lt le = absurd (omega arith)
          longer c r (suc zero) lt le = absurd (omega arith)
          longer c r (suc (suc zero)) lt le = absurd (omega arith)
          longer c [] (suc (suc (suc n))) lt le = absurd (omega arith)
          longer c (a ∷ r) (suc (suc (suc n))) lt le = no_piece (b ∷ (c ∷ (a ∷ take n r))) (and_false _ _ h) (and_false _ _ d) (and_false _ _ k) (no_gap b c (a ∷ take n r) e) refl

  pub front_sign : begins_pair b r ≡ false → is_sign b ≡ true → first_piece at (b ∷ r) ≡ Ok (1, piece_of.Token Symbol)
  front_sign p s = takes at 1 (piece_of.Token Symbol) (b ∷ r) (no_open b r e) (piece_found 1 (piece_of.Token Symbol) (b ∷ r) (rw (h, d, k, i, s, e) refl) (omega arith) (longer_other b r h k d e p)) refl

  pub front_none : begins_pair b r ≡ false → is_sign b ≡ false → first_piece at (b ∷ r) ≡ Err (BadByte at)
  front_none p s = refuses_byte at (b ∷ r) (no_open b r e) (piece_none (b ∷ r) longer)
    where
      one : is_some (piece (b ∷ [])) ≡ false
      one = rw (h, d, k, i, s, e) refl

      longer : IsLongest 0 (b ∷ r)
      longer zero lt le = absurd (omega arith)
      longer (suc zero) lt le = one
      longer (suc (suc n)) lt le = longer_other b r h k d e p (suc (suc n)) (omega arith) le

pub ruleset symbols = (front_pair, front_sign, front_none)
