-- What is written for each station, one station further.
use Rattle.std.proofs.Common.{◌≡◌, ℕ, zero, suc, ◌+◌, List, ◌++◌, ap, ◌∙◌, append-nil, append_assoc, sym, arith}
use Rattle.std.specs.List.{flat_map, range_with_len}

further : (f : ℕ → List ℕ) (a n j : ℕ) → a + n ≡ j → flat_map f (range_with_len a (n + 1)) ≡ flat_map f (range_with_len a n) ++ f j
further f a zero j is =
    let same : a ≡ j = omega (arith, is) in
    append-nil (f a) ∙ ap f same
further f a (suc n) j is =
    let one : suc n + 1 ≡ suc (n + 1) = omega arith in
    let place : (a + 1) + n ≡ j = omega (arith, is) in
    rw one
    (ap (λ xs. f a ++ xs) (further f (a + 1) n j place) ∙ sym (append_assoc (f a) (flat_map f (range_with_len (a + 1) n)) (f j)))

-- a text that has what is written for n stations has after one more piece what is written for n + 1
pub written_further : (f : ℕ → List ℕ) (n : ℕ) (old mid now : List ℕ)
    → mid ≡ old ++ flat_map f (range_with_len 0 n) → now ≡ mid ++ f n → now ≡ old ++ flat_map f (range_with_len 0 (n + 1))
written_further f n old mid now so_far more =
    more ∙ ap (λ xs. xs ++ f n) so_far ∙ append_assoc old (flat_map f (range_with_len 0 n)) (f n) ∙ ap (λ xs. old ++ xs) (sym (further f 0 n n (omega arith)))
