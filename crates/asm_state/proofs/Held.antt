-- What a list of entries holds.
use Rattle.std.proofs.Common.{◌≡◌, ℕ, zero, suc, ◌+◌, ◌<◌, true, false, cond, List, [], ◌∷◌, length, get_or, set, Option, Some, None, ⊎_elim, refl, sym, ap, ◌∙◌, subst, arith}
use Rattle.std.specs.Option.{IsSome, UnwrapsOrElse}
use Rattle.std.specs.Ordering.{nat_cmp, eq_by_cmp}
use Rattle.std.specs.Cmp.{nat_cmp_total, unsigned_tied}
use Rattle.std.specs.FinMap.{find, get, insert, get-insert, get-from_entries, same_map, nat_cmp-IsAntisymmetric}
use Rattle.std.proofs.lemmas.Bool.{eq-eqb, ne_eqb, cases_eq}
use Rattle.std.proofs.lemmas.List.{get_or-set_same, get_or-set_other}
use Rattle.asm_domain.specs.declared.value.Value.{Value}
use Rattle.asm_state.specs.Entries.{filled_from, held}

tied : (i j : ℕ) → i ≡ j → eq_by_cmp nat_cmp i j ≡ true
tied i j e = unsigned_tied i j ∙ eq-eqb i j e

apart : (i j : ℕ) → (i ≡ j → ⊥) → eq_by_cmp nat_cmp i j ≡ false
apart i j n = unsigned_tied i j ∙ ne_eqb i j n

-- no entry stands before the first slot
find_before : (k : ℕ) (xs : List (Option Value)) (q : ℕ) → q < k → find nat_cmp q (filled_from k xs) ≡ None
find_before k [] q lt = refl
find_before k (None ∷ xs) q lt = find_before (suc k) xs q (omega arith)
find_before k (Some v ∷ xs) q lt =
    ap (λ b. cond b (Some v) (find nat_cmp q (filled_from (suc k) xs))) (apart q k (λ e. omega (arith, e, lt)))
    ∙ find_before (suc k) xs q (omega arith)

find_filled : (k : ℕ) (xs : List (Option Value)) (q : ℕ) → find nat_cmp (k + q) (filled_from k xs) ≡ get_or xs q None
find_filled k [] q = refl
find_filled k (None ∷ xs) zero = find_before (suc k) xs (k + 0) (omega arith)
find_filled k (None ∷ xs) (suc q) =
    let e : k + suc q ≡ suc k + q = omega arith in
    ap (λ j. find nat_cmp j (filled_from (suc k) xs)) e ∙ find_filled (suc k) xs q
find_filled k (Some v ∷ xs) zero =
    ap (λ b. cond b (Some v) (find nat_cmp (k + 0) (filled_from (suc k) xs))) (tied (k + 0) k (omega arith))
find_filled k (Some v ∷ xs) (suc q) =
    let e : k + suc q ≡ suc k + q = omega arith in
    ap (λ b. cond b (Some v) (find nat_cmp (k + suc q) (filled_from (suc k) xs))) (apart (k + suc q) k (λ p. omega (arith, p)))
    ∙ ap (λ j. find nat_cmp j (filled_from (suc k) xs)) e ∙ find_filled (suc k) xs q

-- a slot has the value of its entry
pub get-held : (xs : List (Option Value)) (q : ℕ) → get (held xs) q ≡ get_or xs q None
get-held xs q =
    let e : q ≡ 0 + q = omega arith in
    get-from_entries nat_cmp_total (filled_from 0 xs) q ∙ ap (λ j. find nat_cmp j (filled_from 0 xs)) e ∙ find_filled 0 xs q

some_within : (xs : List (Option Value)) (q : ℕ) → IsSome (get_or xs q None) → q < length xs
some_within [] q some = absurd (cc some)
some_within (x ∷ xs) zero some = omega arith
some_within (x ∷ xs) (suc q) some = let lt = some_within xs q some in omega (arith, lt)

-- a slot with a value is within the list
pub within : (xs : List (Option Value)) (q : ℕ) → IsSome (get (held xs) q) → q < length xs
within xs q some = some_within xs q (subst IsSome (get-held xs q) some)

-- the default isn't taken where there is a value
pub unwrapped : {A : Type 0} (x : Option A) (P : A → Type 0) (r : A) → IsSome x → UnwrapsOrElse x P r → x ≡ Some r
unwrapped None P r some is = absurd (cc some)
unwrapped (Some v) P r some is = ap Some (sym is)

get_or-set : (xs : List (Option Value)) (i : ℕ) (v : Value) (q : ℕ) → i < length xs → get_or (set xs i (Some v)) q None ≡ cond (eq_by_cmp nat_cmp q i) (Some v) (get_or xs q None)
get_or-set xs i v q lt =
    ⊎_elim
    (λ e. ap (λ j. get_or (set xs i (Some v)) j None) e ∙ get_or-set_same xs i (Some v) None lt
    ∙ sym (ap (λ b. cond b (Some v) (get_or xs q None)) (tied q i e)))
    (λ n. get_or-set_other xs i q (Some v) None n
    ∙ sym (ap (λ b. cond b (Some v) (get_or xs q None)) (apart q i n)))
    (cases_eq q i)

-- a value that is put over an entry is put at that slot
pub held-set : (xs : List (Option Value)) (i : ℕ) (v : Value) → i < length xs → held (set xs i (Some v)) ≡ insert (held xs) i v
held-set xs i v lt =
    same_map nat_cmp_total nat_cmp-IsAntisymmetric _ _ (λ q.
    get-held (set xs i (Some v)) q ∙ get_or-set xs i v q lt
    ∙ sym (get-insert nat_cmp_total (held xs) i v q ∙ ap (cond (eq_by_cmp nat_cmp q i) (Some v)) (get-held xs q)))
