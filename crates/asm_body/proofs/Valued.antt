-- A token of the class of numbers is a number.
use Rattle.std.proofs.Common.{◌≡◌, ℕ, ◌≤◌, Bool, true, false, not, ◌&&◌, ◌||◌, List, [], ◌∷◌, Option, Some, None, refl, subst, if◌then◌else◌, map}
use Rattle.std.specs.Prelude.{codes}
use Rattle.std.specs.Prelude.{◌==◌, nat_eq}
use Rattle.std.specs.Str.{bytes_eq}
use Rattle.std.specs.Str.Parse.{digits_value}
use Rattle.std.specs.List.{list_all, starts_with}
use Rattle.std.proofs.lemmas.Bool.{ltb-false, eqb-true}
use Rattle.asm_lex.specs.declared.token.Kind.{Kind}
use Rattle.asm_lex.specs.declared.token.Kind.TheVariants as kind_is
use Rattle.asm_lex.specs.declared.piece.Piece.TheVariants as piece_of
use Rattle.asm_lex.specs.Cut.{piece, is_word, is_variable, is_number, is_gap, is_symbol, is_digit, is_too_big, greatest_number}
use Rattle.asm_body.proofs.TokenKinds.{number_is_one}
use Rattle.asm_grammar.specs.Grammar.{has}
use Rattle.asm_tree.specs.Words.{class_in, class_or, free_class, name_class, begins_lower, is_element, class_of, number, kind_of}
use Rattle.asm_tree.specs.declared.class.Class.{Class}
use Rattle.asm_tree.specs.declared.class.Class.TheVariants as class
use Rattle.asm_tree.specs.declared.class.TheConstants.{WORDS}

abbrev Table : Type 0
Table = List (List ℕ × Class)

abbrev pub is_number_class : Class → Bool
is_number_class c = kind_of c == kind_of class.Number

and_left : (a b : Bool) → (a && b) ≡ true → a ≡ true
and_left true b h = refl
and_left false b h = h

and_right : (a b : Bool) → (a && b) ≡ true → b ≡ true
and_right true b h = h
and_right false b h = absurd (cc)

-- no row of the table has the class
not_in : (rows : Table) (w : List ℕ) (c : Class) → list_all (λ (row : List ℕ × Class). not (is_number_class row.1)) rows ≡ true → class_in rows w ≡ Some c → not (is_number_class c) ≡ true
not_in [] w c a e = absurd (cc (e))
not_in (row ∷ rows) w c a e = go (bytes_eq row.0 w) (λ f. not_in rows w c (and_right _ _ a) f) e
  where
    go : (b : Bool) → (class_in rows w ≡ Some c → not (is_number_class c) ≡ true) → (if b then Some row.1 else class_in rows w) ≡ Some c → not (is_number_class c) ≡ true
    go true rest e = let q : row.1 ≡ c = cc (e) in subst (λ (d : Class). not (is_number_class d) ≡ true) q (and_left _ _ a)
    go false rest e = rest e

-- names aren't numbers
not_name : (w : List ℕ) → is_number_class (name_class w) ≡ false
unfolding number
not_name w = go (starts_with nat_eq w (codes "r_")) (starts_with nat_eq w (codes "inv_")) (begins_lower w) (is_element w)
  where
    go : (a b c d : Bool) → is_number_class (if a then class.RuleName else (if b then class.InvariantName else (if c then class.FunctionName else (if d then class.ElementName else class.CapitalName)))) ≡ false
    go true b c d = refl
    go false true c d = refl
    go false false true d = refl
    go false false false true = refl
    go false false false false = refl

free_number : (w : List ℕ) → is_number_class (free_class w) ≡ true → piece w ≡ Some (piece_of.Token kind_is.Number)
unfolding number
free_number w e = go (is_word w) (is_variable w) (is_number w) e
  where
    go : (a b c : Bool) → is_number_class (if a then name_class w else (if b then class.Variable else (if c then class.Number else class.Other))) ≡ true
        → (if a then Some (piece_of.Token kind_is.Word) else (if b then Some (piece_of.Token kind_is.Variable) else (if c then Some (piece_of.Token kind_is.Number) else (if is_gap w then Some piece_of.Gap else (if is_symbol w then Some (piece_of.Token kind_is.Symbol) else None))))) ≡ Some (piece_of.Token kind_is.Number)
    go true b c e = let n = not_name w in absurd (cc (n, e))
    go false true c e = absurd (cc (e))
    go false false true e = refl
    go false false false e = absurd (cc (e))

not_both : (b : Bool) → not b ≡ true → b ≡ true → ⊥
not_both true h e = absurd (cc (h))
not_both false h e = absurd (cc (e))

pub number_piece : (w : List ℕ) → is_number_class (class_of w) ≡ true → piece w ≡ Some (piece_of.Token kind_is.Number)
unfolding class_of number
number_piece w e = go (class_in (map (λ row. (row.0.now, row.1)) WORDS) w) refl e
  where
    go : (o : Option Class) → class_in (map (λ row. (row.0.now, row.1)) WORDS) w ≡ o → is_number_class (class_or o w) ≡ true → piece w ≡ Some (piece_of.Token kind_is.Number)
    go None f e = free_number w e
    go (Some c) f e = absurd (not_both (is_number_class c) (not_in (map (λ row. (row.0.now, row.1)) WORDS) w c refl f) e)

same_number : (c : Class) → kind_of c ≡ kind_of class.Number → is_number_class c ≡ true
unfolding number
same_number c e = rw e refl

-- the class says what the digits are
number_small : (w : List ℕ) (kind : Kind) → piece w ≡ Some (piece_of.Token kind) → is_too_big (piece_of.Token kind) w ≡ false → is_number_class (class_of w) ≡ true → digits_value 10 w ≤ greatest_number
number_small w kind p s e =
    let q = number_piece w e in
    let k : kind ≡ kind_is.Number = cc (p, q) in
    let f : is_too_big (piece_of.Token kind_is.Number) w ≡ false = subst (λ (k : Kind). is_too_big (piece_of.Token k) w ≡ false) k s in
    ltb-false greatest_number (digits_value 10 w) f

is_number_digits : (w : List ℕ) → is_number w ≡ true → list_all is_digit w ≡ true
is_number_digits [] e = absurd (cc (e))
is_number_digits (b ∷ bs) e = e

digits_of : (w : List ℕ) → is_number_class (class_of w) ≡ true → list_all is_digit w ≡ true
digits_of w e = is_number_digits w (number_is_one w (number_piece w e))

pub small_number : (w : List ℕ) (kind : Kind) → piece w ≡ Some (piece_of.Token kind) → is_too_big (piece_of.Token kind) w ≡ false → kind_of (class_of w) ≡ kind_of class.Number → digits_value 10 w ≤ greatest_number
small_number w kind p s e = number_small w kind p s (same_number (class_of w) e)

pub number_digits : (w : List ℕ) → kind_of (class_of w) ≡ kind_of class.Number → list_all is_digit w ≡ true
number_digits w e = digits_of w (same_number (class_of w) e)

-- one kind alone
pub has_one : (k j : ℕ) → has k (j ∷ []) ≡ true → k ≡ j
has_one k j h = go (k == j) refl h
  where
    go : (b : Bool) → (k == j) ≡ b → (b || false) ≡ true → k ≡ j
    go true e h = eqb-true k j e
    go false e h = absurd (cc (h))
