-- The end of a list, and of a call.
use Rattle.std.proofs.Common.{◌≡◌, ℕ, zero, suc, ◌≤◌, List, [], ◌∷◌, length, drop, Result, Ok, Err, refl, ◌∙◌, arith}
use Rattle.std.specs.Prelude.{OnOk}

pub drop_end : {X : Type 0} (xs : List X) (k : ℕ) → length xs ≤ k → drop k xs ≡ []
drop_end [] zero h = refl
drop_end [] (suc k) h = refl
drop_end (x ∷ xs) zero h = absurd (omega arith)
drop_end (x ∷ xs) (suc k) h = drop_end xs k (omega arith)

-- what a call leaves, told by an equal value
pub on_ok : {T E A : Type 0} (r : Result T E) (a : A) {b c : A} → b ≡ c → OnOk r (a ≡ b) → OnOk r (a ≡ c)
on_ok (Ok x) a e h = h ∙ e
on_ok (Err x) a e h = h
