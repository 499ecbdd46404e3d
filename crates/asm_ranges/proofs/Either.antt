-- The least interval that holds several.
use Rattle.std.proofs.Common.{◌≡◌, ℤ, refl, arith}
use Rattle.std.specs.Int.{int_min, int_max}
use Rattle.std.proofs.lemmas.Int.{ints, clamps}
use Rattle.asm_faults.specs.Ranges.{Spread, NoNumber, Between, Missing, either}

least-assoc : (a b c : ℤ) → int_min (int_min a b) c ≡ int_min a (int_min b c)
least-assoc a b c = omega (arith, ints, clamps)

greatest-assoc : (a b c : ℤ) → int_max (int_max a b) c ≡ int_max a (int_max b c)
greatest-assoc a b c = omega (arith, ints, clamps)

pub either-assoc : (r s t : Spread) → either (either r s) t ≡ either r (either s t)
either-assoc Missing s t = refl
either-assoc NoNumber Missing t = refl
either-assoc NoNumber NoNumber Missing = refl
either-assoc NoNumber NoNumber NoNumber = refl
either-assoc NoNumber NoNumber (Between e f) = refl
either-assoc NoNumber (Between c d) Missing = refl
either-assoc NoNumber (Between c d) NoNumber = refl
either-assoc NoNumber (Between c d) (Between e f) = refl
either-assoc (Between a b) Missing t = refl
either-assoc (Between a b) NoNumber Missing = refl
either-assoc (Between a b) NoNumber NoNumber = refl
either-assoc (Between a b) NoNumber (Between e f) = refl
either-assoc (Between a b) (Between c d) Missing = refl
either-assoc (Between a b) (Between c d) NoNumber = refl
either-assoc (Between a b) (Between c d) (Between e f) = λ i. Between (least-assoc a c e i) (greatest-assoc b d f i)

pub either_none : (r : Spread) → either NoNumber r ≡ r
either_none Missing = refl
either_none NoNumber = refl
either_none (Between a b) = refl
