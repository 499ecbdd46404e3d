-- Different names have different codes.
use Rattle.std.proofs.Common.{◌≡◌, ℕ, zero, suc, ◌<◌, [], ◌∷◌, refl, sym, ap, ◌∙◌, arith}
use Rattle.asm_faults.specs.At.{Name}
use Rattle.asm_faults.specs.Model.{IsNumbering}
use Rattle.asm_renaming.specs.Coded.{pair, code}

pair_some : (x n : ℕ) → 0 < pair x n
pair_some zero n = omega arith
pair_some (suc x) n = let some = pair_some x n in omega (arith, some)

first_apart : (x y n m : ℕ) → pair x n ≡ pair y m → x ≡ y
first_apart zero zero n m e = refl
first_apart zero (suc y) n m e = absurd (omega (arith, e))
first_apart (suc x) zero n m e = absurd (omega (arith, e))
first_apart (suc x) (suc y) n m e = let half : pair x n ≡ pair y m = omega (arith, e) in ap suc (first_apart x y n m half)

second_apart : (x n m : ℕ) → pair x n ≡ pair x m → n ≡ m
second_apart zero n m e = omega (arith, e)
second_apart (suc x) n m e = second_apart x n m (omega (arith, e))

code_apart : (xs ys : Name) → code xs ≡ code ys → xs ≡ ys
code_apart [] [] e = refl
code_apart [] (y ∷ ys) e = let some = pair_some y (code ys) in absurd (omega (arith, e, some))
code_apart (x ∷ xs) [] e = let some = pair_some x (code xs) in absurd (omega (arith, e, some))
code_apart (x ∷ xs) (y ∷ ys) e =
    let first : x ≡ y = first_apart x y (code xs) (code ys) e in
    let rest : xs ≡ ys = code_apart xs ys (second_apart y (code xs) (code ys) (ap (λ (z : ℕ). pair z (code xs)) (sym first) ∙ e)) in
    ap (λ (z : ℕ). z ∷ xs) first ∙ ap (λ (zs : Name). y ∷ zs) rest

-- codes are a numbering
pub coding : IsNumbering code
coding = record { apart = code_apart }
