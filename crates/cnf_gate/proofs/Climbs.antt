-- A group in the making, as the loop that makes it has it.
use Rattle.std.proofs.Common.{Bool, ◌≡◌, ℕ, ◌+◌, ◌-◌, ◌*◌, ◌<◌, ◌≤◌, List, [], ◌∷◌, ◌++◌, length, arith, subst, sym, ◌∙◌, true, not, ◌&&◌, refl, ap, append_assoc}
use Rattle.std.specs.Prelude.{is_none}
use Rattle.std.specs.List.{list_all}
use Rattle.cnf_base.specs.declared.lit.Lit.{Lit}
use Rattle.cnf_base.specs.Clauses.{negate, clause_true, formula_true, clause_variables}
use Rattle.cnf_base.specs.Known.{Partial}
use Rattle.cnf_base.specs.Derivation.{lone, is_all_false}
use Rattle.cnf_gate.specs.Gates.{literals}
use Rattle.cnf_gate.specs.Built.{is_quiet, is_filled, IsDetermined, AreGroups, AreRising}
use Rattle.cnf_gate.specs.Ladder.{rung_clauses, IsLadder, IsGroup}
use Rattle.cnf_gate.proofs.Meaning.{literals-gate}
use Rattle.cnf_gate.proofs.Step.{all_split}
use Rattle.cnf_gate.proofs.Chosen.{AreRising-end}
use Rattle.cnf_gate.proofs.Built.{literals-append}
use Rattle.cnf_gate.proofs.Rungs.{all_join, variables_end, IsLadder-first, IsLadder-rung, IsDetermined-group, AreGroups-group, group_means}

pub record Climbs (now : List (List Lit)) (first i : ℕ) (xs : List Lit) (s : Lit) : Type 0 where
  pub long : length xs ≡ i
  pub sized : literals now + 9 ≡ 9 * i
  pub positive : list_all (λ l. l.positive) xs ≡ true
  pub rising : AreRising first xs
  pub bounded : clause_variables xs ≤ first + 2 * i - 1
  pub within : s.var + 1 ≤ first + 2 * i - 1
  pub ladder : (fixed groups : List (List Lit)) → IsDetermined fixed groups first → IsLadder (fixed ++ now) groups xs s (first + 2 * i - 1)

append_nil : {X : Type 0} (xs : List X) → xs ≡ xs ++ []
append_nil [] = refl
append_nil {X = X} (x ∷ xs) = ap (λ (z : List X). x ∷ z) (append_nil xs)

pub Climbs-first : (now : List (List Lit)) (first : ℕ) (xs : List Lit) (x : Lit) → now ≡ [] → x.var ≡ first → x.positive ≡ true → xs ≡ x ∷ [] → Climbs now first 1 xs x
Climbs-first now first xs x n e p m = record {
  long = ap length m;
  sized = omega (arith, ap literals n);
  positive = ap (list_all (λ l. l.positive)) m ∙ (rw p refl);
  rising = let P : List Lit → Type 0 = AreRising first in subst P (sym m) (omega arith, tt);
  bounded = omega (arith, ap clause_variables m);
  within = omega arith;
  ladder = λ fixed groups d.
      let P : ℕ → Type 0 = λ n. IsDetermined fixed groups n in
      let Q : ℕ → Type 0 = λ n. IsLadder fixed groups (x ∷ []) x n in
      let R : List Lit → Type 0 = λ z. IsLadder fixed groups z x (first + 2 * 1 - 1) in
      let S : List (List Lit) → Type 0 = λ z. IsLadder z groups xs x (first + 2 * 1 - 1) in
      let count : x.var + 1 ≡ first + 2 * 1 - 1 = omega arith in
      let same : fixed ≡ fixed ++ now = append_nil fixed ∙ ap (λ (z : List (List Lit)). fixed ++ z) (sym n) in
      subst S same (subst R (sym m) (subst Q count (IsLadder-first fixed groups x (subst P (sym e) d))));
}

pub Climbs-rung : (now new : List (List Lit)) (first i : ℕ) (xs ys : List Lit) (s x o t : Lit) → Climbs now first i xs s → 0 < i
    → x.var ≡ first + 2 * i - 1 → x.positive ≡ true → o.var ≡ first + 2 * i → new ≡ now ++ rung_clauses o s x → ys ≡ xs ++ x ∷ [] → t ≡ negate o
    → Climbs new first (i + 1) ys t
Climbs-rung now new first i xs ys s x o t c k e p f n m v = record {
  long = ap length m ∙ (length_end xs ∙ ap (λ (n : ℕ). n + 1) c.long);
  sized = omega (arith, ap literals n, literals-append now (rung_clauses o s x), literals-gate o (negate s ∷ negate x ∷ []), c.sized);
  positive = ap (list_all (λ l. l.positive)) m ∙ all_join (λ l. l.positive) xs (x ∷ []) c.positive (rw p refl);
  rising = let P : List Lit → Type 0 = AreRising first in subst P (sym m) (AreRising-end xs x first c.rising (omega (arith, c.bounded)) (omega arith));
  bounded = omega (arith, ap clause_variables m, variables_end xs x, c.bounded);
  within = omega (arith, ap (λ (l : Lit). l.var) v);
  ladder = λ fixed groups d.
      let P : ℕ → Type 0 = λ n. IsLadder (fixed ++ now) groups xs s n in
      let up : IsLadder ((fixed ++ now) ++ rung_clauses o s x) groups (xs ++ x ∷ []) (negate o) (x.var + 1 + 1) =
      IsLadder-rung (fixed ++ now) groups xs s x o (subst P (sym e) (c.ladder fixed groups d)) (omega arith) in
      let same : (fixed ++ now) ++ rung_clauses o s x ≡ fixed ++ new =
      append_assoc fixed now (rung_clauses o s x) ∙ ap (λ (z : List (List Lit)). fixed ++ z) (sym n) in
      let Q : ℕ → Type 0 = λ n. IsLadder ((fixed ++ now) ++ rung_clauses o s x) groups (xs ++ x ∷ []) (negate o) n in
      let R : List (List Lit) → Type 0 = λ z. IsLadder z groups (xs ++ x ∷ []) (negate o) (first + 2 * (i + 1) - 1) in
      let S : List Lit → Type 0 = λ z. IsLadder (fixed ++ new) groups z (negate o) (first + 2 * (i + 1) - 1) in
      let T : Lit → Type 0 = λ z. IsLadder (fixed ++ new) groups ys z (first + 2 * (i + 1) - 1) in
      let count : x.var + 1 + 1 ≡ first + 2 * (i + 1) - 1 = omega arith in
      subst T (sym v) (subst S (sym m) (subst R same (subst Q count up)));
}
  where
    length_end : (xs : List Lit) → length (xs ++ x ∷ []) ≡ length xs + 1
    length_end [] = refl
    length_end (y ∷ xs) = omega (arith, length_end xs)

pub Climbs-group : (now new : List (List Lit)) (first i size : ℕ) (xs ys : List Lit) (s : Lit) → Climbs now first i xs s → i ≡ size → 0 < size
    → ys ≡ xs → new ≡ now ++ ys ∷ [] → IsGroup new first size xs
Climbs-group now new first i size xs ys s c e k m n = record {
  long = c.long ∙ e;
  sized = omega (arith, ap literals is, literals-append now (xs ∷ []), c.sized, c.long);
  rising = c.rising;
  determined = λ fixed groups d a.
      let P : List (List Lit) → Type 0 = λ z. IsDetermined z (groups ++ xs ∷ []) (first + 2 * size - 1) in
      let Q : ℕ → Type 0 = λ z. IsDetermined ((fixed ++ now) ++ xs ∷ []) (groups ++ xs ∷ []) (first + 2 * z - 1) in
      let R : List (List Lit) → Type 0 = λ z. AreGroups z (groups ++ xs ∷ []) in (
        subst P (whole fixed) (subst Q e (IsDetermined-group (fixed ++ now) groups xs s (first + 2 * i - 1) (c.ladder fixed groups d))),
        subst R (whole fixed) (AreGroups-group fixed (fixed ++ now) groups xs a (earlier fixed) (λ v h. group_means (fixed ++ now) groups xs s (first + 2 * i - 1) v (c.ladder fixed groups d) h) (front fixed) (filled xs (c.long ∙ e)) c.positive first d.grouped c.rising),
      );
  means = λ fixed groups d v h. group_means (fixed ++ now) groups xs s (first + 2 * i - 1) v (c.ladder fixed groups d) (ap (formula_true v) (whole fixed) ∙ h);
}
  where
    is : new ≡ now ++ xs ∷ []
    is = n ∙ ap (λ (z : List Lit). now ++ z ∷ []) m

    whole : (fixed : List (List Lit)) → (fixed ++ now) ++ xs ∷ [] ≡ fixed ++ new
    whole fixed = append_assoc fixed now (xs ∷ []) ∙ ap (λ (z : List (List Lit)). fixed ++ z) (sym is)

    earlier : (fixed : List (List Lit)) (v : ℕ → Bool) → formula_true v (fixed ++ now) ≡ true → formula_true v fixed ≡ true
    earlier fixed v h = (all_split (clause_true v) fixed now h).0

    front : (fixed : List (List Lit)) (p : Partial) → is_quiet p (fixed ++ now) ≡ true → is_quiet p fixed ≡ true
    front fixed p q = (all_split (λ c. is_none (lone p c) && not (is_all_false p c)) fixed now q).0

    filled : (xs : List Lit) → length xs ≡ size → is_filled xs ≡ true
    filled [] h = absurd (omega arith)
    filled (x ∷ xs) h = refl
