-- Marking the variables of a clause, one after the other.
use Rattle.std.proofs.Common.{◌≡◌, ℕ, ◌+◌, ◌<◌, suc, zero, List, [], ◌∷◌, ◌++◌, length, get_or, drop, arith, sym, ◌∙◌, Option, Some, Bool, true, false, eqb, ◌||◌, refl, ap}
use Rattle.std.specs.Prelude.{slice_set, reverse}
use Rattle.std.proofs.lemmas.List.{reverse-append}
use Rattle.std.specs.List.{list_any}
use Rattle.std.proofs.lemmas.Bool.Decides.{Decides-eqb}
use Rattle.cnf_base.specs.declared.lit.Lit.{Lit}
use Rattle.cnf_search.specs.Passes.{Pass, with_clause}
use Rattle.cnf_search.specs.Backs.{marked}

drop_item : (items : List Lit) (i : ℕ) (x : Lit) → i < length items → x ≡ get_or items i x → drop i items ≡ x ∷ drop (i + 1) items
drop_item [] i x h e = absurd (omega (arith, h))
drop_item (y ∷ items) zero x h e = ap (λ (z : Lit). z ∷ items) (sym e)
drop_item (y ∷ items) (suc i) x h e =
    let k : suc (i + 1) ≡ suc i + 1 = omega arith in
    drop_item items i x (omega arith) e ∙ ap (λ (j : ℕ). x ∷ drop j (y ∷ items)) k

-- the marks with one more
set_marked : (marks : List Bool) (k n : ℕ) → k < length marks → marked (slice_set marks k true) n ≡ eqb k n || marked marks n
set_marked [] k n h = absurd (omega (arith, h))
set_marked (b ∷ marks) zero zero h = refl
set_marked (b ∷ marks) zero (suc n) h = rw (apart n) refl
  where
    apart : (n : ℕ) → eqb zero (suc n) ≡ false
    apart n = grind (arith, Decides-eqb)
set_marked (b ∷ marks) (suc k) zero h = rw (apart k) refl
  where
    apart : (n : ℕ) → eqb (suc n) zero ≡ false
    apart n = grind (arith, Decides-eqb)
set_marked (b ∷ marks) (suc k) (suc n) h = set_marked marks k n (omega arith) ∙ ap (λ (t : Bool). t || marked marks n) (sym (both k n))
  where
    both : (k n : ℕ) → eqb (suc k) (suc n) ≡ eqb k n
    both k n = grind (arith, Decides-eqb)

turned : (a b c : Bool) → a || (b || c) ≡ (b || a) || c
turned true true c = refl
turned true false c = refl
turned false true c = refl
turned false false c = refl

pub mark_step : (items : List Lit) (i : ℕ) (x : Lit) (now new : List Bool) (n : ℕ) → i < length items → x ≡ get_or items i x → x.var < length now → new ≡ slice_set now x.var true
    → with_clause (Some (drop (i + 1) items)) (marked new) n ≡ with_clause (Some (drop i items)) (marked now) n
mark_step items i x now new n h e r s =
    let one : marked new n ≡ eqb x.var n || marked now n = ap (λ (m : List Bool). marked m n) s ∙ set_marked now x.var n r in
    let a : Bool = list_any (λ (y : Lit). eqb y.var n) (drop (i + 1) items) in
    ap (λ (t : Bool). a || t) one ∙ (turned a (eqb x.var n) (marked now n) ∙ ap (λ (ls : List Lit). list_any (λ (y : Lit). eqb y.var n) ls || marked now n) (sym (drop_item items i x h e)))

pub length_set : (marks : List Bool) (k : ℕ) → length (slice_set marks k true) ≡ length marks
length_set [] zero = refl
length_set [] (suc k) = refl
length_set (b ∷ marks) zero = refl
length_set (b ∷ marks) (suc k) = ap suc (length_set marks k)

-- one more literal or hint, where they are made from the last on
pub reverse_push : {X : Type 0} (xs : List X) (y : X) → reverse (xs ++ y ∷ []) ≡ y ∷ reverse xs
reverse_push xs y = reverse-append xs (y ∷ [])

-- a resolved entry
pub told_resolved : (h : ℕ) (m : ℕ → Bool) (f : Option ℕ) (ns : List Bool) (c : List Lit) (hs gs : List ℕ) → ((n : ℕ) → marked ns n ≡ m n) → gs ≡ hs ++ h ∷ []
    → ◌≡◌ {A = Pass} (record { seen = marked ns; found = f; clause = c; hints = reverse gs }) (record { seen = m; found = f; clause = c; hints = h ∷ reverse hs })
told_resolved h m f ns c hs gs a b =
    let r : reverse gs ≡ h ∷ reverse hs = ap reverse b ∙ reverse_push hs h in
    λ i. record { seen = λ n. a n i; found = f; clause = c; hints = r i }

pub none_marked : (marks : List Bool) (n : ℕ) → ((k : ℕ) → marked marks k ≡ false) → marked (marks ++ false ∷ []) n ≡ false
none_marked [] zero h = refl
none_marked [] (suc n) h = h n
none_marked (b ∷ marks) zero h = h 0
none_marked (b ∷ marks) (suc n) h = none_marked marks n (λ k. h (suc k))
