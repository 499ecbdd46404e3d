-- The last level of a list.
use Rattle.std.proofs.Common.{◌≡◌, ℕ, ◌+◌, ◌-◌, suc, zero, List, [], ◌∷◌, ◌++◌, length, take, slice_get, arith, sym, ◌∙◌, Some, Bool, true, false, eqb, not, ◌&&◌, ◌||◌, refl, ap, inl, inr}
use Rattle.cnf_base.proofs.Sound.{eqb_same}
use Rattle.cnf_search.specs.Levels.{last_depth, starts_at}
use Rattle.cnf_search.specs.Moves.{ends_refuted, Drops}
use Rattle.cnf_search.specs.declared.level.Level.{Level}
use Rattle.cnf_search.proofs.Lists.{last_view, any_joined, get_short, length_end}
use Rattle.cnf_search.proofs.Traces.{take_front, take_all}

last_from : (n k : ℕ) (vs : List Level) (u : Level) → length vs ≡ k + 1 → Some u ≡ slice_get vs k → last_depth n vs ≡ u.depth
last_from n k [] u e h = absurd (omega (arith, e))
last_from n zero (v ∷ []) u e h = let same : u ≡ v = cc in ap (λ (z : Level). z.depth) (sym same)
last_from n (suc k) (v ∷ []) u e h = absurd (omega (arith, e))
last_from n zero (v ∷ w ∷ vs) u e h = absurd (omega (arith, e))
last_from n (suc k) (v ∷ w ∷ vs) u e h = last_from v.depth k (w ∷ vs) u (omega (arith, e)) h

pub last_is : (n : ℕ) (vs : List Level) (u : Level) → Some u ≡ slice_get vs (length vs - 1) → last_depth n vs ≡ u.depth
last_is n vs u h = last_from n (length vs - 1) vs u (omega (arith, get_short vs (length vs - 1) u (sym h))) h

ends_from : (b : Bool) (k : ℕ) (vs : List Level) (n : ℕ) (u : Level) → length vs ≡ k + 1 → Some u ≡ slice_get vs k → ends_refuted b vs n ≡ not u.decided && eqb u.depth n
ends_from b k [] n u e h = absurd (omega (arith, e))
ends_from b zero (v ∷ []) n u e h = let same : u ≡ v = cc in ap (λ (z : Level). not z.decided && eqb z.depth n) (sym same)
ends_from b (suc k) (v ∷ []) n u e h = absurd (omega (arith, e))
ends_from b zero (v ∷ w ∷ vs) n u e h = absurd (omega (arith, e))
ends_from b (suc k) (v ∷ w ∷ vs) n u e h = ends_from (not v.decided && eqb v.depth n) k (w ∷ vs) n u (omega (arith, e)) h

pub ends_is : (b : Bool) (vs : List Level) (n : ℕ) (u : Level) → Some u ≡ slice_get vs (length vs - 1) → ends_refuted b vs n ≡ not u.decided && eqb u.depth n
ends_is b vs n u h = ends_from b (length vs - 1) vs n u (omega (arith, get_short vs (length vs - 1) u (sym h))) h

pub ends_at : (b : Bool) (vs : List Level) (u : Level) (n : ℕ) → ends_refuted b (vs ++ u ∷ []) n ≡ not u.decided && eqb u.depth n
ends_at b [] u n = refl
ends_at b (v ∷ vs) u n = ends_at (not v.decided && eqb v.depth n) vs u n

pub refuted_parts : (b : Bool) (k n : ℕ) → not b && eqb k n ≡ true → (b ≡ false) × (k ≡ n)
refuted_parts true k n h = cc
refuted_parts false k n h = (refl, eqb_same k n h)

-- the last level goes
pub dropped : (old new : List Level) (n : ℕ) → ends_refuted false old n ≡ true → new ≡ take (length old - 1) old → Drops old new n
dropped old new n h k =
    elim (last_view old) [
      | inl w ↦ let bad : false ≡ true = ap (λ (z : List Level). ends_refuted false z n) (sym w) ∙ h in cc
      | inr w ↦
          let parts = refuted_parts w.1.decided w.1.depth n (sym (ends_at false w.0 w.1 n) ∙ (ap (λ (z : List Level). ends_refuted false z n) (sym w.2) ∙ h)) in
          let front : new ≡ w.0 = k ∙ (ap (λ (z : List Level). take (length z - 1) z) w.2 ∙ front_of w.0 w.1) in
          inl (w.1, w.2 ∙ ap (λ (z : List Level). z ++ w.1 ∷ []) (sym front), parts.0, parts.1)
    ]
  where
    front_of : (vs : List Level) (u : Level) → take (length (vs ++ u ∷ []) - 1) (vs ++ u ∷ []) ≡ vs
    front_of vs u =
        let n : length (vs ++ u ∷ []) - 1 ≡ length vs = omega (arith, length_end vs u) in
        ap (λ (k : ℕ). take k (vs ++ u ∷ [])) n ∙ (take_front vs (u ∷ []) (length vs) (omega arith) ∙ take_all vs (length vs) (omega arith))

-- a level that isn't the one at this place
pub started_front : (vs : List Level) (u : Level) (i : ℕ) → starts_at (vs ++ u ∷ []) i ≡ true → u.decided && eqb u.start i ≡ false → starts_at vs i ≡ true
started_front vs u i h k =
    left (starts_at vs i) (u.decided && eqb u.start i) (sym (any_joined (λ (v : Level). v.decided && eqb v.start i) vs (u ∷ [])) ∙ h) k
  where
    left : (a b : Bool) → a || (b || false) ≡ true → b ≡ false → a ≡ true
    left true b h k = refl
    left false true h k = cc
    left false false h k = cc
