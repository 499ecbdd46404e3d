-- An update set at each slot: where it is consistent there is one value at most, and else two at some slot.
use Rattle.std.proofs.Common.{◌≡◌, ℕ, List, [], ◌∷◌, Bool, true, false, not, ◌&&◌, ◌||◌, refl, sym, ap, ◌∙◌, subst, nat_eq, T, eqb→eq, eq-eqb, if◌then◌else◌, Option, Some, None, find, option_map}
use Rattle.std.specs.List.{list_any, list_all}
use Rattle.std.specs.Ordering.{eq_by_cmp, is_eq}
use Rattle.std.specs.Cmp.{tied_itself}
use Rattle.std.specs.FinSet as set
use Rattle.std.proofs.lemmas.Map.Views.{tells_apart}
use Rattle.asm_domain.specs.declared.value.Value.{Value}
use Rattle.asm_node.specs.Values.{same}
use Rattle.asm_node.specs.UpdateSet.{Pair, UpdateSet, agree, consistent, pair_cmp, value_at}
use Rattle.asm_node.proofs.Sameness.{same_is}
use Rattle.asm_node.proofs.UpdateSets.{pair_apart, pair_total}
use Rattle.enc_update.specs.Slots.{is_value}

-- equal numbers
equal : (a b : ℕ) → nat_eq a b ≡ true → a ≡ b
equal a b is = eqb→eq a b (subst T (sym is) tt)

itself : (p : Pair) → eq_by_cmp pair_cmp p p ≡ true
itself p = ap is_eq (tied_itself pair_total p)

or_right : (a b : Bool) → b ≡ true → a || b ≡ true
or_right true b h = refl
or_right false b h = h

-- a test of all items is a test of each that is in the list
all_by : (ps : List Pair) (test : Pair → Bool) → ((p : Pair) → list_any (eq_by_cmp pair_cmp p) ps ≡ true → test p ≡ true) → list_all test ps ≡ true
all_by [] test each = refl
all_by (p ∷ ps) test each =
    both (test p) (list_all test ps) (each p (ap (λ b. b || list_any (eq_by_cmp pair_cmp p) ps) (itself p))) (all_by ps test (λ q is. each q (or_right (eq_by_cmp pair_cmp q p) _ is)))
  where
    both : (a b : Bool) → a ≡ true → b ≡ true → a && b ≡ true
    both true b h k = k
    both false b h k = cc

all_at : (ps : List Pair) (test : Pair → Bool) (p : Pair) → list_all test ps ≡ true → list_any (eq_by_cmp pair_cmp p) ps ≡ true → test p ≡ true
all_at [] test p all is = cc
all_at (q ∷ ps) test p all is =
    elim (eq_by_cmp pair_cmp p q) as (λ b. eq_by_cmp pair_cmp p q ≡ b → (b || list_any (eq_by_cmp pair_cmp p) ps) ≡ true → test p ≡ true) [
      | true ↦ λ same _. ap test (tells_apart pair_apart p q same) ∙ first (test q) (list_all test ps) all
      | false ↦ λ _ rest. all_at ps test p (second (test q) (list_all test ps) all) rest
    ] refl is
  where
    first : (a b : Bool) → a && b ≡ true → a ≡ true
    first true b h = refl
    first false b h = h

    second : (a b : Bool) → a && b ≡ true → b ≡ true
    second true b h = h
    second false b h = cc

module _ (u : UpdateSet) where
  held : (p : Pair) → list_any (eq_by_cmp pair_cmp p) (set.items u) ≡ set.contains u p
  held p = sym (set.contains-items u p)

  -- a set without two values at a slot is consistent
  pub consistent_by : ((l : ℕ) (x y : Value) → set.contains u (l, x) ≡ true → set.contains u (l, y) ≡ true → same x y ≡ true) → consistent u ≡ true
  consistent_by one =
      all_by (set.items u) _ (λ p is. all_by (set.items u) (agree p) (λ q js. agrees p q (sym (held p) ∙ is) (sym (held q) ∙ js)))
    where
      agrees : (p q : Pair) → set.contains u p ≡ true → set.contains u q ≡ true → agree p q ≡ true
      agrees p q is js =
          elim (nat_eq p.0 q.0) as (λ b. nat_eq p.0 q.0 ≡ b → not b || same p.1 q.1 ≡ true) [
            | true ↦ λ same_slot. one p.0 p.1 q.1 is (ap (λ l. set.contains u (l, q.1)) (equal p.0 q.0 same_slot) ∙ js)
            | false ↦ λ _. refl
          ] refl

  -- a consistent set has no two values at a slot
  pub one_at : consistent u ≡ true → (l : ℕ) (x y : Value) → set.contains u (l, x) ≡ true → set.contains u (l, y) ≡ true → same x y ≡ true
  one_at agrees l x y is js =
      let here : agree (l, x) (l, y) ≡ true = all_at (set.items u) (agree (l, x)) (l, y) (all_at (set.items u) (λ p. list_all (agree p) (set.items u)) (l, x) agrees (held (l, x) ∙ is)) (held (l, y) ∙ js) in
      subst (λ b. not b || same x y ≡ true) (eq-eqb l l refl) here

  -- a consistent set has the value at a slot that it is said to have, and no other
  pub written_at : consistent u ≡ true → (l : ℕ) (y : Value) → set.contains u (l, y) ≡ is_value y (value_at u l)
  written_at agrees l y = found (set.items u) (λ p is. sym (held p) ∙ is) (find (λ p. nat_eq p.0 l) (set.items u)) refl
    where
      seen : (ps : List Pair) (p : Pair) → find (λ p. nat_eq p.0 l) ps ≡ Some p → (list_any (eq_by_cmp pair_cmp p) ps ≡ true) × (nat_eq p.0 l ≡ true)
      seen [] p is = cc
      seen (q ∷ ps) p is =
          elim (nat_eq q.0 l) as (λ b. nat_eq q.0 l ≡ b → (if b then Some q else find (λ p. nat_eq p.0 l) ps) ≡ Some p → (list_any (eq_by_cmp pair_cmp p) (q ∷ ps) ≡ true) × (nat_eq p.0 l ≡ true)) [
            | true ↦ λ t e. let same_pair : q ≡ p = cc in (ap (λ b. b || list_any (eq_by_cmp pair_cmp p) ps) (ap (eq_by_cmp pair_cmp p) same_pair ∙ itself p), ap (λ (r : Pair). nat_eq r.0 l) (sym same_pair) ∙ t)
            | false ↦ λ _ e. let more = seen ps p e in (or_right (eq_by_cmp pair_cmp p q) _ more.0, more.1)
          ] refl is

      lost : (ps : List Pair) (p : Pair) → find (λ p. nat_eq p.0 l) ps ≡ None → list_any (eq_by_cmp pair_cmp p) ps ≡ true → nat_eq p.0 l ≡ false
      lost [] p none is = cc
      lost (q ∷ ps) p none is =
          elim (nat_eq q.0 l) as (λ b. nat_eq q.0 l ≡ b → (if b then Some q else find (λ p. nat_eq p.0 l) ps) ≡ None → nat_eq p.0 l ≡ false) [
            | true ↦ λ _ e. cc
            | false ↦ λ t e. at t (λ rest. lost ps p e rest)
          ] refl none
        where
          at : nat_eq q.0 l ≡ false → (list_any (eq_by_cmp pair_cmp p) ps ≡ true → nat_eq p.0 l ≡ false) → nat_eq p.0 l ≡ false
          at t further =
              elim (eq_by_cmp pair_cmp p q) as (λ b. eq_by_cmp pair_cmp p q ≡ b → (b || list_any (eq_by_cmp pair_cmp p) ps) ≡ true → nat_eq p.0 l ≡ false) [
                | true ↦ λ same _. ap (λ (r : Pair). nat_eq r.0 l) (tells_apart pair_apart p q same) ∙ t
                | false ↦ λ _ rest. further rest
              ] refl is

      same_truth : (a b : Bool) → (a ≡ true → b ≡ true) → (b ≡ true → a ≡ true) → a ≡ b
      same_truth true b to from = sym (to refl)
      same_truth false true to from = from refl
      same_truth false false to from = refl

      found : (ps : List Pair) → ((p : Pair) → list_any (eq_by_cmp pair_cmp p) ps ≡ true → set.contains u p ≡ true) → (o : Option Pair) → find (λ p. nat_eq p.0 l) (set.items u) ≡ o → set.contains u (l, y) ≡ is_value y (value_at u l)
      found ps within (Some p) is =
          let at = seen (set.items u) p is in
          let slot : p.0 ≡ l = equal p.0 l at.1 in
          let there : set.contains u (l, p.1) ≡ true = ap (λ k. set.contains u (k, p.1)) (sym slot) ∙ (sym (held p) ∙ at.0) in
          same_truth (set.contains u (l, y)) (same p.1 y) (λ js. one_at agrees l p.1 y there js) (λ alike. ap (λ z. set.contains u (l, z)) (sym (same_is p.1 y alike)) ∙ there)
          ∙ sym (ap (λ (q : Option Pair). is_value y (option_map (λ r. r.1) q)) is)
      found ps within None is =
          same_truth (set.contains u (l, y)) false (λ js. let no = lost (set.items u) (l, y) is (held (l, y) ∙ js) in sym no ∙ eq-eqb l l refl) (λ e. cc)
          ∙ sym (ap (λ (q : Option Pair). is_value y (option_map (λ r. r.1) q)) is)
