-- Numbers for all names, of which some have numbers in a table.
use Rattle.std.proofs.Common.{◌≡◌, ℕ, zero, suc, ◌+◌, ◌<◌, List, [], ◌∷◌, length, get_or, Option, Some, None, refl, sym, ap, ◌∙◌, arith}
use Rattle.std.specs.Str.{bytes_eq}
use Rattle.std.specs.Cmp.Lexicographic.{bytes_decides}
use Rattle.std.proofs.lemmas.List.Quantifiers.{position-Some}
use Rattle.name_table.specs.Numbered.{number_of}
use Rattle.asm_faults.specs.At.{Name}
use Rattle.asm_faults.specs.Model.{IsNumbering}
use Rattle.asm_build.specs.Made.{Agrees}

-- ---- a code of each name

-- an odd multiple of a power of two
abbrev pub pair : ℕ → ℕ → ℕ
pair zero n = n + n + 1
pair (suc x) n = pair x n + pair x n

abbrev pub code : Name → ℕ
code [] = 0
code (x ∷ xs) = pair x (code xs)

pair_some : (x n : ℕ) → 0 < pair x n
pair_some zero n = omega arith
pair_some (suc x) n = let some = pair_some x n in omega (arith, some)

first_apart : (x y n m : ℕ) → pair x n ≡ pair y m → x ≡ y
first_apart zero zero n m e = refl
first_apart zero (suc y) n m e = absurd (omega (arith, e))
first_apart (suc x) zero n m e = absurd (omega (arith, e))
first_apart (suc x) (suc y) n m e = let half : pair x n ≡ pair y m = omega (arith, e) in ap suc (first_apart x y n m half)

second_apart : (x n m : ℕ) → pair x n ≡ pair x m → n ≡ m
second_apart zero n m e = omega (arith, e)
second_apart (suc x) n m e = second_apart x n m (omega (arith, e))

pub code_apart : (xs ys : Name) → code xs ≡ code ys → xs ≡ ys
code_apart [] [] e = refl
code_apart [] (y ∷ ys) e = let some = pair_some y (code ys) in absurd (omega (arith, e, some))
code_apart (x ∷ xs) [] e = let some = pair_some x (code xs) in absurd (omega (arith, e, some))
code_apart (x ∷ xs) (y ∷ ys) e =
    let first : x ≡ y = first_apart x y (code xs) (code ys) e in
    let rest : xs ≡ ys = code_apart xs ys (second_apart y (code xs) (code ys) (ap (λ (z : ℕ). pair z (code xs)) (sym first) ∙ e)) in
    ap (λ (z : ℕ). z ∷ xs) first ∙ ap (λ (zs : Name). y ∷ zs) rest

-- ---- the numbers

abbrev choose : Option ℕ → ℕ → ℕ
choose None other = other
choose (Some k) other = k

-- the place in the table, or behind the table by the code
abbrev pub numbered : List Name → Name → ℕ
numbered names x = choose (number_of names x) (length names + code x)

pub agrees_with : (names : List Name) → Agrees (numbered names) names
agrees_with names = record { at = λ x k e. ap (λ (o : Option ℕ). choose o (length names + code x)) e }

below : (names : List Name) (x : Name) (k : ℕ) → number_of names x ≡ Some k → k < length names
below names x k e = (position-Some (λ other. bytes_eq other x) names k x e).0

is_at : (names : List Name) (x : Name) (k : ℕ) (d : Name) → number_of names x ≡ Some k → get_or names k d ≡ x
is_at names x k d e = (bytes_decides (get_or names k d) x).0 (position-Some (λ other. bytes_eq other x) names k d e).1

same_place : (names : List Name) (x y : Name) (k : ℕ) → number_of names x ≡ Some k → number_of names y ≡ Some k → x ≡ y
same_place names x y k e f = sym (is_at names x k x e) ∙ is_at names y k x f

by_places : (names : List Name) (x y : Name) (o p : Option ℕ) → number_of names x ≡ o → number_of names y ≡ p → choose o (length names + code x) ≡ choose p (length names + code y) → x ≡ y
by_places names x y None None e f h = code_apart x y (omega (arith, h))
by_places names x y None (Some k) e f h = let less = below names y k f in absurd (omega (arith, h, less))
by_places names x y (Some k) None e f h = let less = below names x k e in absurd (omega (arith, h, less))
by_places names x y (Some j) (Some k) e f h = same_place names x y j e (f ∙ ap Some (sym h))

-- different names have different numbers
pub is_numbering : (names : List Name) → IsNumbering (numbered names)
is_numbering names = record { apart = λ x y h. by_places names x y (number_of names x) (number_of names y) refl refl h }
