-- What the class of a token says of its bytes.
use Rattle.std.proofs.Common.{◌≡◌, ℕ, suc, Bool, true, false, not, ◌&&◌, ◌||◌, ◌==◌, List, [], ◌∷◌, refl, ap, sym, ◌∙◌, arith, Option, Some, None}
use Rattle.std.specs.Prelude.{nat_lt, map, nat_eq, codes, if◌then◌else◌}
use Rattle.std.specs.List.{list_all, starts_with}
use Rattle.std.specs.Str.{bytes_eq}
use Rattle.std.proofs.lemmas.Bool.Decides.{nat_tests}
use Rattle.std.proofs.lemmas.Bool.{eqb-true}
use Rattle.asm_lex.specs.Cut.{is_letter, is_digit, is_word, is_variable, is_number}
use Rattle.asm_grammar.specs.Grammar.{has}
use Rattle.asm_tree.specs.Words.{class_in, free_class, class_or, class_of, number, name_class, begins_lower, is_element}
use Rattle.asm_tree.specs.declared.class.Class.{Class}
use Rattle.asm_tree.specs.declared.class.Class.TheVariants as class
use Rattle.asm_tree.specs.declared.class.TheConstants.{WORDS}

and_left : (x y : Bool) → (x && y) ≡ true → x ≡ true
and_left true y h = refl
and_left false y h = absurd (cc)

and_right : (x y : Bool) → (x && y) ≡ true → y ≡ true
and_right true y h = h
and_right false y h = absurd (cc)

bytes_same : (v w : List ℕ) → bytes_eq v w ≡ true → v ≡ w
bytes_same [] [] h = refl
bytes_same [] (c ∷ w) h = absurd (cc)
bytes_same (b ∷ v) [] h = absurd (cc)
bytes_same (b ∷ v) (c ∷ w) h = let f : b ≡ c = eqb-true b c (and_left (nat_eq b c) _ h) in let g = bytes_same v w (and_right (nat_eq b c) _ h) in cc

abbrev pub Rows : Type 0
Rows = List (List ℕ × Class)

-- what holds of each row's bytes, where its class passes a test
module _ (p : Class → Bool) (q : List ℕ → Bool) where
  in_rows : (rows : Rows) (w : List ℕ) (c : Class) → list_all (λ (row : List ℕ × Class). not (p row.1) || q row.0) rows ≡ true → class_in rows w ≡ Some c → p c ≡ true → q w ≡ true
  in_rows [] w c a e h = absurd (cc)
  in_rows (row ∷ rows) w c a e h = go (bytes_eq row.0 w) refl e (in_rows rows w c (and_right (not (p row.1) || q row.0) _ a))
    where
      here : (x y : Bool) → (not x || y) ≡ true → x ≡ true → y ≡ true
      here true y f g = f
      here false y f g = absurd (cc)

      go : (b : Bool) → bytes_eq row.0 w ≡ b → (if b then Some row.1 else class_in rows w) ≡ Some c → (class_in rows w ≡ Some c → p c ≡ true → q w ≡ true) → q w ≡ true
      go true f e r = let d : row.1 ≡ c = cc (e) in ap q (sym (bytes_same row.0 w f)) ∙ here (p row.1) (q row.0) (and_left _ _ a) (ap p d ∙ h)
      go false f e r = r e h

-- ---- words

abbrev pub wordy : Class → Bool
wordy c = nat_lt (number c) 90

abbrev rows : Rows
rows = map (λ row. (row.0.now, row.1)) WORDS

words_table : list_all (λ (row : List ℕ × Class). not (wordy row.1) || is_word row.0) rows ≡ true
unfolding number
words_table = refl

free_word : (w : List ℕ) → wordy (free_class w) ≡ true → is_word w ≡ true
unfolding number
free_word w h = go (is_word w) (is_variable w) (is_number w) refl h
  where
    go : (x y z : Bool) → is_word w ≡ x → wordy (if x then name_class w else (if y then class.Variable else (if z then class.Number else class.Other))) ≡ true → is_word w ≡ true
    go true y z e h = e
    go false true z e h = absurd (cc)
    go false false true e h = absurd (cc)
    go false false false e h = absurd (cc)

pub class_word : (w : List ℕ) → wordy (class_of w) ≡ true → is_word w ≡ true
unfolding class_of
class_word w h = go (class_in rows w) refl h
  where
    go : (o : Option Class) → class_in rows w ≡ o → wordy (class_or o w) ≡ true → is_word w ≡ true
    go None e h = free_word w h
    go (Some c) e h = in_rows wordy is_word rows w c words_table e h

-- a kind among these is that of a word
pub kind_below : (n k : ℕ) (ks : List ℕ) → list_all (λ i. nat_lt i n) ks ≡ true → has k ks ≡ true → nat_lt k n ≡ true
kind_below n k [] a h = absurd (cc)
kind_below n k (i ∷ ks) a h = go (k == i) refl h (kind_below n k ks (and_right (nat_lt i n) _ a))
  where
    go : (b : Bool) → (k == i) ≡ b → (b || has k ks) ≡ true → (has k ks ≡ true → nat_lt k n ≡ true) → nat_lt k n ≡ true
    go true e h r = let f : k ≡ i = eqb-true k i e in ap (λ j. nat_lt j n) f ∙ and_left _ _ a
    go false e h r = r h

one_less : (n : ℕ) → nat_lt (suc n) 91 ≡ true → nat_lt n 90 ≡ true
one_less n h = grind (arith, nat_tests)

pub kind_word : (w : List ℕ) (ks : List ℕ) → list_all (λ i. nat_lt i 91) ks ≡ true → has (suc (number (class_of w))) ks ≡ true → is_word w ≡ true
kind_word w ks a h = class_word w (one_less (number (class_of w)) (kind_below 91 (suc (number (class_of w))) ks a h))

-- ---- variables

abbrev pub is_variable_class : Class → Bool
is_variable_class c = number c == 114

variables_table : list_all (λ (row : List ℕ × Class). not (is_variable_class row.1) || is_variable row.0) rows ≡ true
unfolding number
variables_table = refl

free_variable : (w : List ℕ) → is_variable_class (free_class w) ≡ true → is_variable w ≡ true
unfolding number
free_variable w h = go (is_word w) (is_variable w) (is_number w) refl h
  where
    named : (a b c d : Bool) → is_variable_class (if a then class.RuleName else (if b then class.InvariantName else (if c then class.FunctionName else (if d then class.ElementName else class.CapitalName)))) ≡ true → is_variable w ≡ true
    named true b c d h = absurd (cc)
    named false true c d h = absurd (cc)
    named false false true d h = absurd (cc)
    named false false false true h = absurd (cc)
    named false false false false h = absurd (cc)

    go : (x y z : Bool) → is_variable w ≡ y → is_variable_class (if x then name_class w else (if y then class.Variable else (if z then class.Number else class.Other))) ≡ true → is_variable w ≡ true
    go true y z e h = named (starts_with nat_eq w (codes "r_")) (starts_with nat_eq w (codes "inv_")) (begins_lower w) (is_element w) h
    go false true z e h = e
    go false false true e h = absurd (cc)
    go false false false e h = absurd (cc)

class_variable : (w : List ℕ) → is_variable_class (class_of w) ≡ true → is_variable w ≡ true
unfolding class_of
class_variable w h = go (class_in rows w) refl h
  where
    go : (o : Option Class) → class_in rows w ≡ o → is_variable_class (class_or o w) ≡ true → is_variable w ≡ true
    go None e h = free_variable w h
    go (Some c) e h = in_rows is_variable_class is_variable rows w c variables_table e h

one_kind : (k n : ℕ) → has (suc k) (suc n ∷ []) ≡ true → (k == n) ≡ true
one_kind k n h = go (suc k == suc n) refl h
  where
    go : (b : Bool) → (suc k == suc n) ≡ b → (b || false) ≡ true → (k == n) ≡ true
    go true e h = grind (arith, nat_tests)
    go false e h = absurd (cc)

pub kind_variable : (w : List ℕ) → has (suc (number (class_of w))) (suc 114 ∷ []) ≡ true → is_variable w ≡ true
kind_variable w h = class_variable w (one_kind (number (class_of w)) 114 h)

-- ---- numbers

numbers_table : list_all (λ (row : List ℕ × Class). not true || not (is_number row.0)) rows ≡ true
numbers_table = refl

number_no_letter : (b : ℕ) → is_digit b ≡ true → is_letter b ≡ false
number_no_letter b h = grind (arith, nat_tests)

number_no_dollar : (b : ℕ) → is_digit b ≡ true → (b == 36) ≡ false
number_no_dollar b h = grind (arith, nat_tests)

pub no_word : (w : List ℕ) → is_number w ≡ true → is_word w ≡ false
no_word [] h = refl
no_word (b ∷ v) h = let e = number_no_letter b (and_left (is_digit b) _ h) in rw e refl

pub no_variable : (w : List ℕ) → is_number w ≡ true → is_variable w ≡ false
no_variable [] h = refl
no_variable (b ∷ v) h = let e = number_no_dollar b (and_left (is_digit b) _ h) in rw e refl

abbrev pub is_number_class : Class → Bool
is_number_class c = number c == 115

number_rows : list_all (λ (row : List ℕ × Class). not (is_number_class row.1) || is_number row.0) rows ≡ true
unfolding number
number_rows = refl

free_number : (w : List ℕ) → is_number_class (free_class w) ≡ true → is_number w ≡ true
unfolding number
free_number w h = go (is_word w) (is_variable w) (is_number w) refl h
  where
    named : (a b c d : Bool) → is_number_class (if a then class.RuleName else (if b then class.InvariantName else (if c then class.FunctionName else (if d then class.ElementName else class.CapitalName)))) ≡ true → is_number w ≡ true
    named true b c d h = absurd (cc)
    named false true c d h = absurd (cc)
    named false false true d h = absurd (cc)
    named false false false true h = absurd (cc)
    named false false false false h = absurd (cc)

    go : (x y z : Bool) → is_number w ≡ z → is_number_class (if x then name_class w else (if y then class.Variable else (if z then class.Number else class.Other))) ≡ true → is_number w ≡ true
    go true y z e h = named (starts_with nat_eq w (codes "r_")) (starts_with nat_eq w (codes "inv_")) (begins_lower w) (is_element w) h
    go false true z e h = absurd (cc)
    go false false true e h = e
    go false false false e h = absurd (cc)

of_number_class : (w : List ℕ) → is_number_class (class_of w) ≡ true → is_number w ≡ true
unfolding class_of
of_number_class w h = go (class_in rows w) refl h
  where
    go : (o : Option Class) → class_in rows w ≡ o → is_number_class (class_or o w) ≡ true → is_number w ≡ true
    go None e h = free_number w h
    go (Some c) e h = in_rows is_number_class is_number rows w c number_rows e h

pub kind_number : (w : List ℕ) → has (suc (number (class_of w))) (suc 115 ∷ []) ≡ true → is_number w ≡ true
kind_number w h = of_number_class w (one_kind (number (class_of w)) 115 h)

pub class_number : (w : List ℕ) → is_number w ≡ true → class_of w ≡ class.Number
unfolding class_of
class_number w h = go (class_in rows w) refl
  where
    go : (o : Option Class) → class_in rows w ≡ o → class_or o w ≡ class.Number
    go None e = let f = no_word w h in let g = no_variable w h in rw (f, g, h) refl
    go (Some c) e = let f : not (is_number w) ≡ true = in_rows (λ c. true) (λ w. not (is_number w)) rows w c numbers_table e refl in let g : not true ≡ true = ap not (sym h) ∙ f in absurd (cc)
