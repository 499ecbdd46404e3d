-- Decimal numbers.
use Rattle.std.proofs.Common.{◌≡◌, ℕ, ◌+◌, ◌*◌, ◌-◌, ◌<◌, ◌≤◌, List, [], ◌∷◌, length, drop, get_or, suc, drop-cons, arith, refl, sym, ap, ◌∙◌, None, nat_le, false}
use Rattle.std.specs.Prelude.{fold}
use Rattle.std.proofs.lemmas.Bool.Decides.{nat_tests}
use Rattle.asm_cli.specs.Words.{with_digit, at_most}

-- more digits make no smaller number
grows : (n : ℕ) (digits : List ℕ) → n ≤ fold with_digit n digits
grows n [] = omega arith
grows n (b ∷ digits) = let more : with_digit n b ≤ fold with_digit (with_digit n b) digits = grows (with_digit n b) digits in omega arith

is_over : (limit n : ℕ) → limit < n → nat_le n limit ≡ false
is_over limit n over = grind (arith, nat_tests)

-- a number whose front is over the limit is over it
pub over-limit : (limit n whole : ℕ) (rest : List ℕ) → fold with_digit n rest ≡ whole → limit < n → at_most limit whole ≡ None
over-limit limit n whole rest is over =
    let more : n ≤ fold with_digit n rest = grows n rest in
    let test : nat_le whole limit ≡ false = is_over limit whole (omega arith) in
    rw test refl

-- one more digit takes the number over the limit
pub over-next : (limit n whole : ℕ) (digits : List ℕ) (i d : ℕ) → i < length digits → fold with_digit n (drop i digits) ≡ whole → d ≡ get_or digits i 0 - 48 → limit < n * 10 + d
    → None ≡ at_most limit whole
over-next limit n whole digits i d within is digit over =
    let next : with_digit n (get_or digits i 0) ≡ n * 10 + d = rw digit (omega arith) in
    sym (over-limit limit (with_digit n (get_or digits i 0)) whole (drop (suc i) digits) (sym (ap (fold with_digit n) (drop-cons digits i 0 within)) ∙ is) (rw next over))
