-- Texts that are appended piece by piece.
use Rattle.std.proofs.Common.{◌≡◌, ℕ, suc, ◌+◌, ◌-◌, ◌<◌, List, ◌++◌, Result, Ok, Err, OnOk, sym, ap, subst, ◌∙◌, append-nil, append_assoc, arith}
use Rattle.std.specs.List.{flat_map, range_with_len}

-- one number more
pub number_more : (f : ℕ → List ℕ) (i count : ℕ) (mid now whole : List ℕ) → i < count
    → mid ++ flat_map f (range_with_len i (count - i)) ≡ whole → now ≡ mid ++ f i → now ++ flat_map f (range_with_len (i + 1) (count - (i + 1))) ≡ whole
number_more f i count mid now whole lt so_far more =
    let left : count - i ≡ suc (count - (i + 1)) = omega (arith, lt) in
    ap (λ zs. zs ++ flat_map f (range_with_len (i + 1) (count - (i + 1)))) more
    ∙ append_assoc mid (f i) (flat_map f (range_with_len (i + 1) (count - (i + 1))))
    ∙ ap (λ k. mid ++ flat_map f (range_with_len i k)) (sym left) ∙ so_far

-- no number is left
pub number_end : (f : ℕ → List ℕ) (i count : ℕ) (mid whole : List ℕ) → count ≡ i → mid ++ flat_map f (range_with_len i (count - i)) ≡ whole → mid ≡ whole
number_end f i count mid whole is so_far =
    let none : count - i ≡ 0 = omega (arith, is) in
    sym (append-nil mid) ∙ ap (λ k. mid ++ flat_map f (range_with_len i k)) (sym none) ∙ so_far

module _ {T E : Type 0} (r : Result T E) (old : List ℕ) where
  -- the last of two pieces
  pub two : (mid new a b : List ℕ) → mid ≡ old ++ a → OnOk r (new ≡ mid ++ b) → OnOk r (new ≡ old ++ (a ++ b))
  two mid new a b first ok = elim r as (λ q. OnOk q (new ≡ mid ++ b) → OnOk q (new ≡ old ++ (a ++ b))) [
    | Ok x ↦ λ is. is ∙ ap (λ zs. zs ++ b) first ∙ append_assoc old a b
    | Err e ↦ λ is. tt
  ] ok

  -- the same bytes in other words
  pub worded : (new a b : List ℕ) → a ≡ b → OnOk r (new ≡ old ++ a) → OnOk r (new ≡ old ++ b)
  worded new a b same ok = subst (λ zs. OnOk r (new ≡ old ++ zs)) same ok

-- the last of three pieces
pub three : {T E : Type 0} (r : Result T E) (old mid now new a b c : List ℕ) → mid ≡ old ++ a → now ≡ mid ++ b → OnOk r (new ≡ now ++ c) → OnOk r (new ≡ old ++ (a ++ (b ++ c)))
three r old mid now new a b c first second ok = two r old mid new a (b ++ c) first (two r mid now new b c second ok)

-- the last of four pieces
pub four : {T E : Type 0} (r : Result T E) (old mid now then new a b c d : List ℕ) → mid ≡ old ++ a → now ≡ mid ++ b → then ≡ now ++ c → OnOk r (new ≡ then ++ d) → OnOk r (new ≡ old ++ (a ++ (b ++ (c ++ d))))
four r old mid now then new a b c d first second third ok = two r old mid new a (b ++ (c ++ d)) first (three r mid now then new b c d second third ok)

pub line_of_six : (a b c d f g e : List ℕ) → a ++ (b ++ (c ++ d ++ f ++ (g ++ e))) ≡ (a ++ b ++ c ++ d ++ f ++ g) ++ e
line_of_six a b c d f g e = simp append_assoc

pub from_left : (a b c d : List ℕ) → a ++ (b ++ (c ++ d)) ≡ a ++ b ++ c ++ d
from_left a b c d = simp append_assoc
