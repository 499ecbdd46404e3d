-- Named answers that meet a case.
use Rattle.std.proofs.Common.{◌≡◌, ℕ, Bool, true, false, ◌||◌, List, [], ◌∷◌, nat_eq, refl, subst}
use Rattle.std.proofs.lemmas.Bool.Decides.{Decides-eqb}
use Rattle.cnf_gate.specs.Circuit.{Drawn}
use Rattle.decide_tests.specs.declared.rows.Rows.{Rows}
use Rattle.decide_tests.specs.Tables.{meets_at, Meets, is_met, Asks}
use Rattle.two_level.specs.Asking.{is_named, Gives, IsRefuted}

no_falsehood : false ≡ true → ⊥
no_falsehood e = cc

eqb_same : (m n : ℕ) → nat_eq m n ≡ true → m ≡ n
eqb_same m n e = (Decides-eqb m n).0 e

split : (a b : Bool) (P : Type 0) → a || b ≡ true → (a ≡ true → P) → (b ≡ true → P) → P
split true b P e f g = f refl
split false b P e f g = g e

or_right : (a b : Bool) → b ≡ true → a || b ≡ true
or_right true b e = refl
or_right false b e = e

or_left : (a b : Bool) → a ≡ true → a || b ≡ true
or_left true b e = refl
or_left false b e = cc

nat_same : (n : ℕ) → nat_eq n n ≡ true
nat_same n = (Decides-eqb n n).1 refl

-- a named answer that meets the case is one by which it is met
pub met_by : (m : Rows) (ns : List ℕ) (n : ℕ) (k : Bool) → is_named ns n ≡ true → Meets m n k → is_met m ns k ≡ true
met_by m [] n k e meets = cc
met_by m (x ∷ xs) n k e meets = split (nat_eq n x) (is_named xs n) (is_met m (x ∷ xs) k ≡ true) e
    (λ t. or_left (meets_at m x k) (is_met m xs k) (subst (λ y. Meets m y k) (eqb_same n x t) meets))
    (λ t. or_right (meets_at m x k) (is_met m xs k) (met_by m xs n k t meets))

-- where a case is met one of the named answers meets it
pub met_gives : (m : Rows) (ns : List ℕ) (k : Bool) → is_met m ns k ≡ true → Gives (Meets m) ns k
met_gives m [] k e = absurd (no_falsehood e)
met_gives m (x ∷ xs) k e = split (meets_at m x k) (is_met m xs k) (Gives (Meets m) (x ∷ xs) k) e
    (λ t. record { answer = x; is_one = or_left (nat_eq x x) (is_named xs x) (nat_same x); meeting = t })
    (λ t. let g = met_gives m xs k t in record { answer = g.answer; is_one = or_right (nat_eq g.answer x) (is_named xs g.answer) g.is_one; meeting = g.meeting })

-- where a circuit that asks for answers is refuted one of them meets each case
pub refuted_gives : (m : Rows) (ns : List ℕ) (c : Drawn) → Asks m ns c → IsRefuted c → (k : Bool) → Gives (Meets m) ns k
refuted_gives m ns c asks none k =
    elim (is_met m ns k) as (λ b. is_met m ns k ≡ b → Gives (Meets m) ns k) [
      | true ↦ λ e. met_gives m ns k e
      | false ↦ λ e. let s = asks k e in absurd (none s.0 s.1)
    ] refl
