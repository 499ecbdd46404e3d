-- How the lists of an index grow.
use Rattle.std.proofs.Common.{◌≡◌, ◌≢◌, ℕ, ◌+◌, ◌*◌, ◌<◌, ◌≤◌, suc, zero, List, [], ◌∷◌, ◌++◌, length, take, get_or, set, slice_get, arith, sym, ◌∙◌, Some, Bool, true, false, cond, eqb, ◌||◌, refl, ap, add-one, inl, inr}
use Rattle.std.specs.List.{list_any}
use Rattle.std.proofs.lemmas.Bool.Decides.{nat_tests, Decides-eqb}
use Rattle.cnf_base.specs.declared.lit.Lit.{Lit}
use Rattle.cnf_base.specs.Clauses.{is_same, has}
use Rattle.cnf_base.proofs.Sound.{eqb_same, some_same}
use Rattle.cnf_gate.proofs.Rungs.{any_end}
use Rattle.cnf_search.specs.Queue.{place_of, numbers_at, IsIndex, Names}
use Rattle.cnf_search.proofs.Accepted.{same_parts}
use Rattle.cnf_search.proofs.Traces.{read_get}
use Rattle.cnf_search.proofs.Lists.{get_joined}

eqb_refl : (n : ℕ) → eqb n n ≡ true
eqb_refl n = (Decides-eqb n n).1 refl

or_true : (b : Bool) → b || true ≡ true
or_true true = refl
or_true false = refl

get_set_same : (xs : List (List ℕ)) (i : ℕ) (x : List ℕ) → i < length xs → get_or (set xs i x) i [] ≡ x
get_set_same [] i x h = absurd (omega arith)
get_set_same (y ∷ xs) zero x h = refl
get_set_same (y ∷ xs) (suc i) x h = get_set_same xs i x (omega arith)

get_set_other : (xs : List (List ℕ)) (i j : ℕ) (x : List ℕ) → i ≢ j → get_or (set xs i x) j [] ≡ get_or xs j []
get_set_other [] i j x h = refl
get_set_other (y ∷ xs) zero zero x h = absurd (h refl)
get_set_other (y ∷ xs) zero (suc j) x h = refl
get_set_other (y ∷ xs) (suc i) zero x h = refl
get_set_other (y ∷ xs) (suc i) (suc j) x h = get_set_other xs i j x (λ e. h (omega (arith, e)))

-- a number that is added at a place is named there, and no other is forgotten
kept_at : (lists : List (List ℕ)) (k j n number : ℕ) → k < length lists → list_any (eqb n) (get_or lists j []) ≡ true
    → list_any (eqb n) (get_or (set lists k (get_or lists k [] ++ number ∷ [])) j []) ≡ true
kept_at lists k j n number room h =
    elim (eqb k j) as (λ b. eqb k j ≡ b → list_any (eqb n) (get_or (set lists k (get_or lists k [] ++ number ∷ [])) j []) ≡ true) [
      | true ↦ λ e.
          let same : k ≡ j = eqb_same k j e in
          let new : get_or (set lists k (get_or lists k [] ++ number ∷ [])) j [] ≡ get_or lists k [] ++ number ∷ [] =
          ap (λ (z : ℕ). get_or (set lists k (get_or lists k [] ++ number ∷ [])) z []) (sym same) ∙ get_set_same lists k (get_or lists k [] ++ number ∷ []) room in
          let was : list_any (eqb n) (get_or lists k []) ≡ true = ap (λ (z : ℕ). list_any (eqb n) (get_or lists z [])) same ∙ h in
          ap (list_any (eqb n)) new ∙ (any_end (eqb n) (get_or lists k []) number ∙ (rw was refl))
      | false ↦ λ e.
          let other : k ≢ j = λ s. differ (sym (ap (eqb k) (sym s) ∙ eqb_refl k) ∙ e) in
          ap (list_any (eqb n)) (get_set_other lists k j (get_or lists k [] ++ number ∷ []) other) ∙ h
    ] refl
  where
    differ : true ≡ false → ⊥
    differ h = cc

named_at : (lists : List (List ℕ)) (k number : ℕ) → k < length lists → list_any (eqb number) (get_or (set lists k (get_or lists k [] ++ number ∷ [])) k []) ≡ true
named_at lists k number room =
    ap (list_any (eqb number)) (get_set_same lists k (get_or lists k [] ++ number ∷ []) room)
    ∙ (any_end (eqb number) (get_or lists k []) number ∙ (ap (λ (b : Bool). list_any (eqb number) (get_or lists k []) || b) (eqb_refl number) ∙ or_true (list_any (eqb number) (get_or lists k []))))

same_place : (l m : Lit) → is_same l m ≡ true → place_of l ≡ place_of m
same_place l m h = let a = same_parts l m h in λ i. cond (a.1 i) (2 * (a.0 i) + 1) (2 * (a.0 i))

take_end : (g : List Lit) (i : ℕ) (l : Lit) → i < length g → l ≡ get_or g i l → take (i + 1) g ≡ take i g ++ l ∷ []
take_end g i l h e = rw add-one (go g i l h e)
  where
    go : (g : List Lit) (i : ℕ) (l : Lit) → i < length g → l ≡ get_or g i l → take (suc i) g ≡ take i g ++ l ∷ []
    go [] i l h e = absurd (omega arith)
    go (m ∷ []) zero l h e = ap (λ (z : Lit). z ∷ []) (sym e)
    go (m ∷ k ∷ g) zero l h e = ap (λ (z : Lit). z ∷ []) (sym e)
    go (m ∷ g) (suc i) l h e = ap (λ (z : List Lit). m ∷ z) (go g i l (omega arith) e)

pub Names-start : (lists : List (List ℕ)) (c : List Lit) (number : ℕ) → Names lists lists (take 0 c) number
Names-start lists [] number = record { kept = λ n l h. h; named = λ l h. cc }
Names-start lists (m ∷ c) number = record { kept = λ n l h. h; named = λ l h. cc }

pub Names-next : (old now new : List (List ℕ)) (c : List Lit) (i number : ℕ) (m : Lit) → Names old now (take i c) number
    → new ≡ set now (place_of m) (get_or now (place_of m) [] ++ number ∷ []) → place_of m < length now → i < length c → m ≡ get_or c i m
    → Names old new (take (i + 1) c) number
Names-next old now new c i number m s e room h is = record {
  kept = λ n l k. keep n l (s.kept n l k);
  named = λ l k.
      let split : has (take i c) l || is_same l m ≡ true = sym (ap (list_any (is_same l)) (take_end c i m h is) ∙ any_end (is_same l) (take i c) m) ∙ k in
      elim (has (take i c) l) as (λ b. has (take i c) l ≡ b → b || is_same l m ≡ true → list_any (eqb number) (numbers_at new l) ≡ true) [
        | true ↦ λ t _. keep number l (s.named l t)
        | false ↦ λ _ t.
            let at : place_of l ≡ place_of m = same_place l m t in
            ap (λ (z : List (List ℕ)). list_any (eqb number) (get_or z (place_of l) [])) e
            ∙ (ap (λ (z : ℕ). list_any (eqb number) (get_or (set now (place_of m) (get_or now (place_of m) [] ++ number ∷ [])) z [])) at ∙ named_at now (place_of m) number room)
      ] refl split;
}
  where
    keep : (n : ℕ) (l : Lit) → list_any (eqb n) (numbers_at now l) ≡ true → list_any (eqb n) (numbers_at new l) ≡ true
    keep n l k = ap (λ (z : List (List ℕ)). list_any (eqb n) (get_or z (place_of l) [])) e ∙ kept_at now (place_of m) (place_of l) n number room k

-- the clauses before a number are named
pub record IsBegun (f : List (List Lit)) (lists : List (List ℕ)) (number : ℕ) : Type 0 where
  pub at : (n : ℕ) (c : List Lit) (l : Lit) → n < number → slice_get f n ≡ Some c → has c l ≡ true → list_any (eqb n) (numbers_at lists l) ≡ true

pub IsBegun-start : (f : List (List Lit)) (lists : List (List ℕ)) → IsBegun f lists 0
IsBegun-start f lists = record { at = λ n c l k. absurd (omega arith) }

pub IsBegun-next : (f g : List (List Lit)) (old new : List (List ℕ)) (number : ℕ) (c : List Lit) → g ≡ f → IsBegun f old number → number < length g → c ≡ get_or g number c
    → Names old new c number → IsBegun f new (number + 1)
IsBegun-next f g old new number c same b k is s = record {
  at = λ n d l less g_at there.
      elim (eqb n number) as (λ t. eqb n number ≡ t → list_any (eqb n) (numbers_at new l) ≡ true) [
        | true ↦ λ t.
            let e : n ≡ number = eqb_same n number t in
            let named : slice_get f number ≡ Some c = ap (λ (z : List (List Lit)). slice_get z number) (sym same) ∙ read_get g number c k is in
            let one : c ≡ d = some_same c d (sym named ∙ (ap (slice_get f) (sym e) ∙ g_at)) in
            let has_it : has c l ≡ true = ap (λ (z : List Lit). has z l) one ∙ there in
            ap (λ (z : ℕ). list_any (eqb z) (numbers_at new l)) e ∙ s.named l has_it
        | false ↦ λ t.
            let low : n < number = below n number less t in
            s.kept n l (b.at n d l low g_at there)
      ] refl;
}
  where
    below : (n m : ℕ) → n < m + 1 → eqb n m ≡ false → n < m
    below n m h t = grind (arith, nat_tests)

pub IsBegun-end : (f g : List (List Lit)) (lists : List (List ℕ)) (number : ℕ) → g ≡ f → IsBegun f lists number → length g ≤ number → IsIndex f lists
IsBegun-end f g lists number same b h = record { at = λ n c l k there. b.at n c l (omega (arith, inside f n c k, ap length same)) k there }
  where
    inside : (f : List (List Lit)) (n : ℕ) (c : List Lit) → slice_get f n ≡ Some c → n < length f
    inside [] n c g = cc
    inside (d ∷ f) zero c g = omega arith
    inside (d ∷ f) (suc n) c g = omega (arith, inside f n c g)

pub place_below : (l : Lit) (n : ℕ) → l.var < n → place_of l < 2 * n
place_below l n h = elim l.positive as (λ b. cond b (2 * l.var + 1) (2 * l.var) < 2 * n) [ true ↦ omega arith | false ↦ omega arith ]

-- one more clause, named by the next number
pub IsIndex-more : (cs : List (List Lit)) (old new : List (List ℕ)) (c : List Lit) (number : ℕ) → IsIndex cs old → Names old new c number → number ≡ length cs → IsIndex (cs ++ c ∷ []) new
IsIndex-more cs old new c number x s e = record {
  at = λ n d l g there.
      elim (get_joined cs (c ∷ []) n d g) [
        | inl w ↦ s.kept n l (x.at n d l w there)
        | inr w ↦
            let o = only w.0 d w.2 in
            let is : number ≡ n = omega (arith, e, w.1, o.0) in
            let has_it : has c l ≡ true = ap (λ (z : List Lit). has z l) o.1 ∙ there in
            ap (λ (k : ℕ). list_any (eqb k) (numbers_at new l)) (sym is) ∙ s.named l has_it
      ];
}
  where
    only : (j : ℕ) (d : List Lit) → slice_get (c ∷ []) j ≡ Some d → (j ≡ 0) × (c ≡ d)
    only zero d h = (refl, cc)
    only (suc j) d h = cc
