-- The value of digits.
use Rattle.std.proofs.Common.{◌≡◌, ℕ, zero, suc, ◌+◌, ◌*◌, ◌<◌, ◌≤◌, ◌&&◌, Bool, true, false, List, [], ◌∷◌, refl, arith, length, drop, get_or, drop-cons, add-one}
use Rattle.std.specs.Prelude.{nat_lt}
use Rattle.std.proofs.lemmas.Bool.{ltb-false}
use Rattle.std.specs.List.{list_all}
use Rattle.std.specs.Str.Parse.{digits_value_after}
use Rattle.std.specs.Char.{digit_value}
use Rattle.asm_lex.specs.Cut.{is_digit, greatest_number}

-- further digits make no number smaller
pub value_grows : (n : ℕ) (ds : List ℕ) → n ≤ digits_value_after 10 n ds
value_grows n [] = omega arith
value_grows n (d ∷ ds) = omega (arith, value_grows (n * 10 + digit_value d) ds)

pub value_step : (n : ℕ) (ds : List ℕ) (i : ℕ) (d : ℕ) → i < length ds → digits_value_after 10 n (drop i ds) ≡ digits_value_after 10 (n * 10 + digit_value (get_or ds i d)) (drop (i + 1) ds)
value_step n ds i d h = rw (add-one, drop-cons ds i d) refl

and_left : (a b : Bool) → (a && b) ≡ true → a ≡ true
and_left true b h = refl
and_left false b h = h

and_right : (a b : Bool) → (a && b) ≡ true → b ≡ true
and_right true b h = h
and_right false b h = absurd (cc)

pub digit_at : (ds : List ℕ) (i : ℕ) (d : ℕ) → list_all is_digit ds ≡ true → i < length ds → is_digit (get_or ds i d) ≡ true
digit_at [] i d h lt = absurd (omega arith)
digit_at (b ∷ ds) zero d h lt = and_left _ _ h
digit_at (b ∷ ds) (suc i) d h lt = digit_at ds i d (and_right _ _ h) (omega arith)

pub stays_above : (n r : ℕ) (ds : List ℕ) (i d v : ℕ) → i < length ds → digits_value_after 10 n (drop i ds) ≡ v → r ≡ digit_value (get_or ds i d) → greatest_number < 10 * n + r → nat_lt greatest_number v ≡ true
stays_above n r ds i d v lt e f g = go (nat_lt greatest_number v) refl
  where
    grows : 10 * n + r ≤ v
    grows = let h = value_grows (n * 10 + digit_value (get_or ds i d)) (drop (i + 1) ds) in let k = value_step n ds i d lt in omega (arith, e, f, h, k)

    go : (b : Bool) → nat_lt greatest_number v ≡ b → nat_lt greatest_number v ≡ true
    go true q = q
    go false q = let h = ltb-false greatest_number v q in absurd (omega (arith, grows))

pub ruleset values = (value_grows, value_step, digit_at)
