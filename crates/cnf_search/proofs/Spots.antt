-- The place in the tree is below the number of choices, and rises at each return.
use Rattle.std.proofs.Common.{◌≡◌, ℕ, ◌+◌, ◌*◌, ◌<◌, ◌≤◌, suc, zero, List, [], ◌∷◌, ◌++◌, arith, refl, sym, ◌∙◌, ap, drop, length, get_or, true}
use Rattle.std.specs.List.{list_all}
use Rattle.cnf_base.specs.declared.lit.Lit.{Lit}
use Rattle.cnf_base.proofs.Sound.{and_true}
use Rattle.cnf_gate.specs.Built.{is_filled}
use Rattle.cnf_search.specs.Lines.{choices}
use Rattle.cnf_search.specs.Levels.{digit, spot, AreRanked, last_depth}
use Rattle.cnf_search.specs.declared.level.Level.{Level}

filled_long : (g : List Lit) → is_filled g ≡ true → 0 < length g
filled_long [] h = cc
filled_long (l ∷ g) h = omega arith

positive : (a b : ℕ) → 0 < a → 0 < b → 0 < a * b
positive a b h k = grind arith

pub choices_positive : (gs : List (List Lit)) → list_all is_filled gs ≡ true → 0 < choices gs
choices_positive [] h = omega arith
choices_positive (g ∷ gs) h =
    let s = and_true (is_filled g) (list_all is_filled gs) h in
    positive (length g) (choices gs) (filled_long g s.0) (choices_positive gs s.1)

filled_drop : (gs : List (List Lit)) (n : ℕ) → list_all is_filled gs ≡ true → list_all is_filled (drop n gs) ≡ true
filled_drop [] zero h = h
filled_drop [] (suc n) h = h
filled_drop (g ∷ gs) zero h = h
filled_drop (g ∷ gs) (suc n) h = filled_drop gs n (and_true (is_filled g) (list_all is_filled gs) h).1

-- the choices of the groups from a place on are those of its own literals and of the later groups
choices_drop : (gs : List (List Lit)) (n : ℕ) → n < length gs → choices (drop n gs) ≡ length (get_or gs n []) * choices (drop (n + 1) gs)
choices_drop [] n h = absurd (omega (arith, h))
choices_drop (g ∷ gs) zero h = ap (λ (z : List (List Lit)). length g * choices z) (sym (whole gs))
  where
    whole : (gs : List (List Lit)) → drop 0 gs ≡ gs
    whole [] = refl
    whole (g ∷ gs) = refl
choices_drop (g ∷ gs) (suc n) h =
    let e : suc (n + 1) ≡ suc n + 1 = omega arith in
    choices_drop gs n (omega arith) ∙ ap (λ (k : ℕ). length (get_or gs n []) * choices (drop k (g ∷ gs))) e

larger : (a b c : ℕ) → 0 < a → b ≤ c → b ≤ a * c
larger a b c h k = grind (arith, more)
  where
    more : 1 * c ≤ a * c
    more = grind arith

choices_later : (gs : List (List Lit)) (m n : ℕ) → list_all is_filled gs ≡ true → m ≤ n → choices (drop n gs) ≤ choices (drop m gs)
choices_later gs zero zero h k = omega arith
choices_later [] zero (suc n) h k = omega arith
choices_later (g ∷ gs) zero (suc n) h k =
    let s = and_true (is_filled g) (list_all is_filled gs) h in
    larger (length g) (choices (drop n gs)) (choices gs) (filled_long g s.0) (omega (arith, choices_later gs zero n s.1 (omega arith), ap choices (whole gs)))
  where
    whole : (gs : List (List Lit)) → drop 0 gs ≡ gs
    whole [] = refl
    whole (g ∷ gs) = refl
choices_later gs (suc m) zero h k = absurd (omega (arith, k))
choices_later [] (suc m) (suc n) h k = omega arith
choices_later (g ∷ gs) (suc m) (suc n) h k = choices_later gs m n (and_true (is_filled g) (list_all is_filled gs) h).1 (omega arith)

below_next : (s d m r : ℕ) → d < s → r < m → d * m + r < s * m
below_next s d m r h k = grind (arith, bigger)
  where
    bigger : (d + 1) * m ≤ s * m
    bigger = grind arith

-- a spot is below the number of choices
pub spot_below : (gs : List (List Lit)) (from : ℕ) (vs : List Level) → list_all is_filled gs ≡ true → AreRanked gs from vs → spot gs vs < choices (drop from gs)
spot_below gs from [] h k = choices_positive (drop from gs) (filled_drop gs from h)
spot_below gs from (v ∷ vs) h k =
    let later : spot gs vs < choices (drop (v.depth + 1) gs) = spot_below gs (v.depth + 1) vs h k.3 in
    let here : spot gs (v ∷ vs) < length (get_or gs v.depth []) * choices (drop (v.depth + 1) gs) =
    below_next (length (get_or gs v.depth [])) (digit v) (choices (drop (v.depth + 1) gs)) (spot gs vs) k.2 later in
    omega (arith, here, choices_drop gs v.depth k.1, choices_later gs from v.depth h k.0)

pub spot_least : (gs : List (List Lit)) (vs : List Level) → list_all is_filled gs ≡ true → AreRanked gs 0 vs → spot gs vs < choices gs
spot_least gs vs h k = omega (arith, spot_below gs 0 vs h k, ap choices (whole gs))
  where
    whole : (gs : List (List Lit)) → drop 0 gs ≡ gs
    whole [] = refl
    whole (g ∷ gs) = refl

-- where the walk returns to a level and goes on with a later value, the spot rises
pub spot_rises : (gs : List (List Lit)) (from : ℕ) (front more : List Level) (v n : Level) → list_all is_filled gs ≡ true → AreRanked gs from (front ++ v ∷ more)
    → n.depth ≡ v.depth → digit v < digit n → spot gs (front ++ v ∷ more) < spot gs (front ++ n ∷ [])
spot_rises gs from [] more v n h k e l =
    let later : spot gs more < choices (drop (v.depth + 1) gs) = spot_below gs (v.depth + 1) more h k.3 in
    let here : digit v * choices (drop (v.depth + 1) gs) + spot gs more < digit n * choices (drop (v.depth + 1) gs) =
    below_next (digit n) (digit v) (choices (drop (v.depth + 1) gs)) (spot gs more) l later in
    let same : digit n * choices (drop (n.depth + 1) gs) ≡ digit n * choices (drop (v.depth + 1) gs) = ap (λ (d : ℕ). digit n * choices (drop (d + 1) gs)) e in
    omega (arith, here, same)
spot_rises gs from (w ∷ front) more v n h k e l = omega (arith, spot_rises gs (w.depth + 1) front more v n h k.3 e l)

-- one level more
pub spot_more : (gs : List (List Lit)) (vs : List Level) (n : Level) → spot gs vs ≤ spot gs (vs ++ n ∷ [])
spot_more gs [] n = omega arith
spot_more gs (v ∷ vs) n = omega (arith, spot_more gs vs n)

-- a level in place of one of the same group
pub spot_later : (gs : List (List Lit)) (vs : List Level) (u n : Level) → n.depth ≡ u.depth → digit u ≤ digit n → spot gs (vs ++ u ∷ []) ≤ spot gs (vs ++ n ∷ [])
spot_later gs [] u n e l =
    let same : digit n * choices (drop (n.depth + 1) gs) ≡ digit n * choices (drop (u.depth + 1) gs) = ap (λ (d : ℕ). digit n * choices (drop (d + 1) gs)) e in
    omega (arith, same, scaled (digit u) (digit n) (choices (drop (u.depth + 1) gs)) l)
  where
    scaled : (a b m : ℕ) → a ≤ b → a * m ≤ b * m
    scaled a b m h = grind arith
spot_later gs (v ∷ vs) u n e l = omega (arith, spot_later gs vs u n e l)

pub ranked_return : (gs : List (List Lit)) (from : ℕ) (front more : List Level) (v n : Level) → AreRanked gs from (front ++ v ∷ more) → n.depth ≡ v.depth
    → digit n < length (get_or gs n.depth []) → AreRanked gs from (front ++ n ∷ [])
ranked_return gs from [] more v n k e l = (omega (arith, k.0, e), omega (arith, k.1, e), l, tt)
ranked_return gs from (w ∷ front) more v n k e l = (k.0, k.1, k.2, ranked_return gs (w.depth + 1) front more v n k.3 e l)

-- the group after the last level's
abbrev pub next_free : ℕ → List Level → ℕ
next_free n [] = n
next_free n (v ∷ vs) = next_free (v.depth + 1) vs

pub next_free-end : (n : ℕ) (vs : List Level) (u : Level) → next_free n (vs ++ u ∷ []) ≡ u.depth + 1
next_free-end n [] u = refl
next_free-end n (v ∷ vs) u = next_free-end (v.depth + 1) vs u

pub last_depth-end : (n : ℕ) (vs : List Level) (u : Level) → last_depth n (vs ++ u ∷ []) ≡ u.depth
last_depth-end n [] u = refl
last_depth-end n (v ∷ vs) u = last_depth-end v.depth vs u

pub ranked_push : (gs : List (List Lit)) (from : ℕ) (vs : List Level) (n : Level) → AreRanked gs from vs → next_free from vs ≤ n.depth → n.depth < length gs
    → digit n < length (get_or gs n.depth []) → AreRanked gs from (vs ++ n ∷ [])
ranked_push gs from [] n k f d l = (f, d, l, tt)
ranked_push gs from (v ∷ vs) n k f d l = (k.0, k.1, k.2, ranked_push gs (v.depth + 1) vs n k.3 f d l)

-- the levels before the last one
pub ranked_front : (gs : List (List Lit)) (from : ℕ) (vs : List Level) (u : Level) → AreRanked gs from (vs ++ u ∷ []) → AreRanked gs from vs × (next_free from vs ≤ u.depth)
ranked_front gs from [] u k = (tt, k.0)
ranked_front gs from (v ∷ vs) u k = let r = ranked_front gs (v.depth + 1) vs u k.3 in ((k.0, k.1, k.2, r.0), r.1)
