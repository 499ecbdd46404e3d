-- Lists of named numbers.
use Rattle.std.proofs.Common.{◌≡◌, ℕ, zero, suc, ◌+◌, ◌<◌, ◌≤◌, Bool, true, false, ◌||◌, List, [], ◌∷◌, ◌++◌, nat_eq, refl, ap, sym, ◌∙◌, subst, arith}
use Rattle.std.proofs.lemmas.Bool.Decides.{nat_tests}
use Rattle.cnf_base.proofs.Sound.{eqb_same}
use Rattle.two_level.specs.Asking.{below, is_named, AreBelow}

or_false : (b : Bool) → b || false ≡ b
or_false true = refl
or_false false = refl

or_true : (b : Bool) → b || true ≡ true
or_true true = refl
or_true false = refl

or_assoc : (a b c : Bool) → a || (b || c) ≡ (a || b) || c
or_assoc true b c = refl
or_assoc false b c = refl

split : (a b : Bool) (P : Type 0) → a || b ≡ true → (a ≡ true → P) → (b ≡ true → P) → P
split true b P e f g = f refl
split false b P e f g = g e

pub named_more : (ns : List ℕ) (x n : ℕ) → is_named (ns ++ x ∷ []) n ≡ (is_named ns n || nat_eq n x)
named_more [] x n = or_false (nat_eq n x)
named_more (y ∷ ys) x n = ap (λ b. nat_eq n y || b) (named_more ys x n) ∙ or_assoc (nat_eq n y) (is_named ys n) (nat_eq n x)

pub named_below : (count : ℕ) → AreBelow count (below count)
named_below zero n e = cc
named_below (suc m) n e =
    split (is_named (below m) n) (nat_eq n m) (n < suc m) (sym (named_more (below m) m n) ∙ e)
    (λ t. let r : n < m = named_below m n t in omega (arith, r))
    (λ t. let r : n ≡ m = eqb_same n m t in omega (arith, r))

pub below_named : (count n : ℕ) → n < count → is_named (below count) n ≡ true
below_named zero n l = absurd (omega (arith, l))
below_named (suc m) n l = named_more (below m) m n ∙
    (elim (nat_eq n m) as (λ b. nat_eq n m ≡ b → (is_named (below m) n || b) ≡ true) [
      | true ↦ λ e. or_true (is_named (below m) n)
      | false ↦ λ e. let less : n < m = grind (arith, nat_tests) in ap (λ (b : Bool). b || false) (below_named m n less)
    ] refl)
