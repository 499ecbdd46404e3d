-- A finite map without some keys below a bound.
use Rattle.std.proofs.Common.{◌≡◌, ◌≤◌, ℕ, ◌+◌, None, Bool as Truth, true, false, not, ◌&&◌, cond, nat_eq, refl, sym, ap, subst, ◌∙◌, T, eqb→eq, eq-eqb, true≢false}
use Rattle.std.proofs.Math.Dec.{ltb}
use native.Mathlib.Omega.{arith}
use Rattle.std.proofs.lemmas.Bool.{lt-ltb, ltb-true, ltb-false, le-ltb}
use Rattle.std.specs.Ordering.{nat_cmp}
use Rattle.std.specs.Cmp.{nat_cmp_total, unsigned_tied}
use Rattle.std.specs.FinMap.{FinMap, nat_cmp-IsAntisymmetric, get, remove, retain_keys, get-retain_keys, get-remove, same_map}

module _ (drops : ℕ → Truth) where
  -- the key isn't one of those below the bound
  abbrev pub stays : ℕ → ℕ → Truth
  stays k q = not (drops q && ltb q k)

  equal_of : (q k : ℕ) → ltb q k ≡ false → ltb q (k + 1) ≡ true → q ≡ k
  equal_of q k ge lt = let g = ltb-false q k ge in let l = ltb-true q (k + 1) lt in omega arith

  same_below : (q k : ℕ) → nat_eq q k ≡ false → ltb q k ≡ ltb q (k + 1)
  same_below q k other =
      elim (ltb q k) as (λ b. ltb q k ≡ b → b ≡ ltb q (k + 1)) [
        | true ↦ λ lt. let l = ltb-true q k lt in sym (lt-ltb q (k + 1) (omega arith))
        | false ↦ λ ge. elim (ltb q (k + 1)) as (λ b. ltb q (k + 1) ≡ b → false ≡ b) [
          | true ↦ λ lt. absurd (true≢false (sym (eq-eqb q k (equal_of q k ge lt)) ∙ other))
          | false ↦ λ _. refl
        ] refl
      ] refl

  -- a key that stays changes no bound
  pub skip : (k q : ℕ) → drops k ≡ false → stays k q ≡ stays (k + 1) q
  skip k q kept =
      elim (nat_eq q k) as (λ b. nat_eq q k ≡ b → stays k q ≡ stays (k + 1) q) [
        | true ↦ λ is.
            let no : drops q ≡ false = ap drops (eqb→eq q k (subst T (sym is) tt)) ∙ kept in
            ap (λ b. not (b && ltb q k)) no ∙ sym (ap (λ b. not (b && ltb q (k + 1))) no)
        | false ↦ λ other. ap (λ b. not (drops q && b)) (same_below q k other)
      ] refl

  gone : (k : ℕ) → drops k ≡ true → stays (k + 1) k ≡ false
  gone k drop = ap (λ b. not (b && ltb k (k + 1))) drop ∙ ap not (lt-ltb k (k + 1) (omega arith))

  module _ {X : Type 0} (m : FinMap nat_cmp X) where
    has : (k q : ℕ) → get (retain_keys m (stays k)) q ≡ cond (stays k q) (get m q) None
    has k q = get-retain_keys m (stays k) q (λ x tie. ap (stays k) (sym (nat_cmp-IsAntisymmetric q x tie)))

    -- a key that doesn't stay is removed
    pub drop_next : (k : ℕ) → drops k ≡ true → remove (retain_keys m (stays k)) k ≡ retain_keys m (stays (k + 1))
    drop_next k drop = same_map nat_cmp_total nat_cmp-IsAntisymmetric _ _ (λ q.
        get-remove nat_cmp_total (retain_keys m (stays k)) k q
        ∙ ap (λ b. cond b None (get (retain_keys m (stays k)) q)) (unsigned_tied q k)
        ∙ elim (nat_eq q k) as (λ b. nat_eq q k ≡ b → cond b None (get (retain_keys m (stays k)) q) ≡ get (retain_keys m (stays (k + 1))) q) [
          | true ↦ λ is. sym (has (k + 1) q ∙ ap (λ b. cond b (get m q) None) (ap (stays (k + 1)) (eqb→eq q k (subst T (sym is) tt)) ∙ gone k drop))
          | false ↦ λ other. has k q ∙ ap (λ b. cond (not (drops q && b)) (get m q) None) (same_below q k other) ∙ sym (has (k + 1) q)
        ] refl)

    pub skip_next : (k : ℕ) → drops k ≡ false → retain_keys m (stays k) ≡ retain_keys m (stays (k + 1))
    skip_next k kept = λ i. retain_keys m (λ q. skip k q kept i)

    pub all_stay : m ≡ retain_keys m (stays 0)
    all_stay = same_map nat_cmp_total nat_cmp-IsAntisymmetric _ _ (λ q. sym (has 0 q ∙ ap (λ b. cond b (get m q) None) (none_below q)))
      where
        none_below : (q : ℕ) → stays 0 q ≡ true
        none_below q = ap (λ b. not (drops q && b)) (le-ltb q 0 (omega arith)) ∙ elim (drops q) as (λ b. not (b && false) ≡ true) [ true ↦ refl | false ↦ refl ]

    -- beyond the bound no key is in question
    pub all_dropped : (n : ℕ) → ((q : ℕ) → n ≤ q → drops q ≡ false) → retain_keys m (stays n) ≡ retain_keys m (λ q. not (drops q))
    all_dropped n beyond = λ i. retain_keys m (λ q. each q i)
      where
        each : (q : ℕ) → stays n q ≡ not (drops q)
        each q =
            elim (ltb q n) as (λ b. ltb q n ≡ b → not (drops q && b) ≡ not (drops q)) [
              | true ↦ λ _. elim (drops q) as (λ b. not (b && true) ≡ not b) [ true ↦ refl | false ↦ refl ]
              | false ↦ λ ge. let no = beyond q (ltb-false q n ge) in ap (λ b. not (b && false)) no ∙ sym (ap not no)
            ] refl
