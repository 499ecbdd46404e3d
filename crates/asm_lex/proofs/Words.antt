-- The bytes at the front that go on with a piece.
use Rattle.std.proofs.Common.{◌≡◌, ℕ, zero, suc, ◌+◌, ◌<◌, ◌≤◌, Bool, true, false, List, [], ◌∷◌, Option, Some, None, refl, sym, ap, ◌∙◌, arith, ◌-◌, length, length-drop, take, drop, get_or, drop-cons, add-one}
use Rattle.asm_lex.specs.Cut.{run_of, begins_close, up_to_close, further}

pub runs_on : (f : ℕ → Bool) (bs : List ℕ) (i : ℕ) (d : ℕ) → i < length bs → f (get_or bs i d) ≡ true → run_of f (drop i bs) ≡ suc (run_of f (drop (i + 1) bs))
runs_on f bs i d h t = rw (add-one, drop-cons bs i d, t) refl

pub runs_out : (f : ℕ → Bool) (bs : List ℕ) (i : ℕ) (d : ℕ) → i < length bs → f (get_or bs i d) ≡ false → run_of f (drop i bs) ≡ 0
runs_out f bs i d h t = rw (drop-cons bs i d, t) refl

pub ruleset runs = (runs_on, runs_out)

-- ---- slices

take_all : (bs : List ℕ) → take (length bs) bs ≡ bs
take_all [] = refl
take_all (b ∷ bs) = ap (λ z. b ∷ z) (take_all bs)

-- a slice up to the end
pub slice_to_end : (i : ℕ) (bs : List ℕ) → take (length bs - i) (drop i bs) ≡ drop i bs
slice_to_end i bs = ap (λ (n : ℕ). take n (drop i bs)) (sym (length-drop i bs)) ∙ take_all (drop i bs)

-- ---- up to the first `*/`

-- so many bytes further
abbrev pub shifted : ℕ → Option ℕ → Option ℕ
shifted n None = None
shifted n (Some k) = Some (n + k)

shifted_further : (n : ℕ) (o : Option ℕ) → shifted n (further o) ≡ shifted (n + 1) o
shifted_further n None = refl
shifted_further n (Some k) = ap (λ (m : ℕ). Some m) (let e : n + suc k ≡ n + 1 + k = omega arith in e)

pub shifted_first : (o : Option ℕ) → o ≡ shifted 0 o
shifted_first None = refl
shifted_first (Some k) = ap (λ (m : ℕ). Some m) (let e : k ≡ 0 + k = omega arith in e)

pub closes_here : (bs : List ℕ) (i : ℕ) → i < length bs → begins_close (drop i bs) ≡ true → shifted i (up_to_close (drop i bs)) ≡ Some (i + 2)
closes_here bs i lt h = go (drop i bs) h
  where
    go : (w : List ℕ) → begins_close w ≡ true → shifted i (up_to_close w) ≡ Some (i + 2)
    go [] h = absurd (cc)
    go (b ∷ w) h = rw h refl

pub closes_later : (bs : List ℕ) (i : ℕ) → i < length bs → begins_close (drop i bs) ≡ false → shifted i (up_to_close (drop i bs)) ≡ shifted (i + 1) (up_to_close (drop (i + 1) bs))
closes_later bs i lt h = let e : drop i bs ≡ get_or bs i 0 ∷ drop (suc i) bs = drop-cons bs i 0 lt in
    let k : begins_close (get_or bs i 0 ∷ drop (suc i) bs) ≡ false = rw e at h in
    rw (add-one, e, k) (shifted_further i (up_to_close (drop (suc i) bs)) ∙ ap (λ (m : ℕ). shifted m (up_to_close (drop (suc i) bs))) (let j : i + 1 ≡ suc i = omega arith in j))

pub closes_never : (bs : List ℕ) (i : ℕ) → length bs ≤ i → up_to_close (drop i bs) ≡ None
closes_never [] zero le = refl
closes_never [] (suc i) le = refl
closes_never (b ∷ bs) zero le = absurd (omega arith)
closes_never (b ∷ bs) (suc i) le = closes_never bs i (omega arith)

pub begins_within : (bs : List ℕ) (i : ℕ) → i < length bs → begins_close (drop i bs) ≡ true → i + 2 ≤ length bs
begins_within [] i lt h = absurd (omega arith)
begins_within (b ∷ []) zero lt h = absurd (cc)
begins_within (b ∷ (c ∷ bs)) zero lt h = omega arith
begins_within (b ∷ bs) (suc i) lt h = omega (arith, begins_within bs i (omega arith) h)

pub ruleset closings = (shifted_first, closes_here, closes_later, closes_never, begins_within)
