-- How many entries groups have, one group after the other.
use Rattle.std.proofs.Common.{◌≡◌, ◌≤◌, ℕ, zero, suc, ◌+◌, List, [], ◌∷◌, ◌++◌, length, arith, refl, sym, ap, ◌∙◌, append_assoc, append-nil}
use Rattle.asm_domain.specs.declared.value.Value.{Value}
use Rattle.enc_group.specs.declared.group.Entry.{Entry}
use Rattle.enc_group.specs.Group.{values_in}
use Rattle.enc_group.specs.Binding.{group_at, entries_before, values_before}

up : (i : ℕ) → i + 1 ≡ suc i
up i = omega arith

pub entries_more : (gs : List (List Entry)) (i : ℕ) → entries_before gs (i + 1) ≡ entries_before gs i + length (group_at gs i)
entries_more gs i = ap (entries_before gs) (up i) ∙ go gs i
  where
    go : (gs : List (List Entry)) (i : ℕ) → entries_before gs (suc i) ≡ entries_before gs i + length (group_at gs i)
    go [] zero = refl
    go [] (suc i) = refl
    go (g ∷ gs) zero = omega arith
    go (g ∷ gs) (suc i) = omega (arith, go gs i)

pub entries_up : (gs : List (List Entry)) (i j : ℕ) → i ≤ j → entries_before gs i ≤ entries_before gs j
entries_up gs zero j h = omega arith
entries_up [] (suc i) (suc j) h = omega arith
entries_up [] (suc i) zero h = absurd (omega arith)
entries_up (g ∷ gs) (suc i) zero h = absurd (omega arith)
entries_up (g ∷ gs) (suc i) (suc j) h = omega (arith, entries_up gs i j (omega arith))

pub values_more : (gs : List (List Entry)) (i : ℕ) → values_before gs (i + 1) ≡ values_before gs i ++ values_in (group_at gs i)
values_more gs i = ap (values_before gs) (up i) ∙ go gs i
  where
    go : (gs : List (List Entry)) (i : ℕ) → values_before gs (suc i) ≡ values_before gs i ++ values_in (group_at gs i)
    go [] zero = refl
    go [] (suc i) = refl
    go (g ∷ gs) zero = append-nil (values_in g)
    go (g ∷ gs) (suc i) = ap (λ (zs : List Value). values_in g ++ zs) (go gs i) ∙ sym (append_assoc (values_in g) (values_before gs i) (values_in (group_at gs i)))

length_append : (xs ys : List Value) → length (xs ++ ys) ≡ length xs + length ys
length_append [] ys = omega arith
length_append (x ∷ xs) ys = omega (arith, length_append xs ys)

pub length_values : (es : List Entry) → length (values_in es) ≡ length es
length_values [] = refl
length_values (e ∷ es) = omega (arith, length_values es)

-- as many values as entries
pub length_values_before : (gs : List (List Entry)) (n : ℕ) → length (values_before gs n) ≡ entries_before gs n
length_values_before gs zero = refl
length_values_before [] (suc n) = refl
length_values_before (g ∷ gs) (suc n) =
    length_append (values_in g) (values_before gs n) ∙ omega (arith, length_values g, length_values_before gs n)
