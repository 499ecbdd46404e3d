-- The first builder, and one more required literal.
use Rattle.std.proofs.Common.{◌≡◌, ℕ, ◌+◌, ◌*◌, ◌<◌, ◌≤◌, suc, zero, List, [], ◌∷◌, ◌++◌, length, map, take, get_or, arith, subst, sym, ◌∙◌, Bool, true, false, cond, not, ◌&&◌, ◌||◌, refl, ap, add-one}
use Rattle.cnf_base.specs.declared.lit.Lit.{Lit}
use Rattle.cnf_base.specs.Clauses.{negate, lit_true, clause_true, formula_true, clause_variables}
use Rattle.cnf_base.proofs.VariableBounds.{variables-append}
use Rattle.std.specs.List.{list_any, list_all}
use Rattle.std.specs.Prelude.{Result, Ok, Err, OnOk, IfOk, is_err}
use Rattle.cnf_base.specs.Derivation.{lone, is_all_false}
use Rattle.std.specs.Prelude.{is_none}
use Rattle.cnf_gate.specs.Gates.{pair_clauses, gate_clauses, literals, flip_all}
use Rattle.cnf_gate.specs.Built.{IsDetermined, IsBuilt, AreGroups}
use Rattle.cnf_gate.proofs.Meaning.{literals-gate, gate_true}
use Rattle.cnf_gate.proofs.Step.{IsDetermined-gate, all_split}
use Rattle.cnf_gate.specs.Limits.{IsWithinLimits}
use Rattle.cnf_gate.proofs.Chosen.{free-empty}
use Rattle.cnf_base.proofs.Sound.{beq_same}
use Rattle.cnf_gate.proofs.Meaning.{lit_true-negate}

pub IsDetermined-empty : IsDetermined [] [] 0
IsDetermined-empty = record {
  counted = refl;
  grouped = omega arith;
  unique = λ v w sv sw agree n k. absurd (omega arith);
  exists = λ u c. (u, refl, refl);
  propagates = λ p decided quiet n k. absurd (omega arith);
}

pub IsBuilt-empty : IsBuilt [] [] [] 0 0
IsBuilt-empty = record { determined = IsDetermined-empty; grouped = record { one = λ v h. refl; stated = λ p q. refl; filled = refl; positive = refl; free = free-empty }; posed = omega arith; sized = refl; few = omega arith; short = omega arith }

pub AreGroups-more : (fixed more groups : List (List Lit)) → AreGroups fixed groups → AreGroups (fixed ++ more) groups
AreGroups-more fixed more groups g = record {
  one = λ v h. g.one v (all_split (clause_true v) fixed more h).0;
  stated = λ p q. g.stated p (all_split (λ c. is_none (lone p c) && not (is_all_false p c)) fixed more q).0;
  filled = g.filled;
  positive = g.positive;
  free = g.free;
}

pub literals-append : (f g : List (List Lit)) → literals (f ++ g) ≡ literals f + literals g
literals-append [] g = omega arith
literals-append (c ∷ f) g = omega (arith, literals-append f g)

pub IsBuilt-require : (fixed required groups : List (List Lit)) (count size : ℕ) (l : Lit) → IsBuilt fixed required groups count size → l.var < count
    → size + 1 ≤ 30000000 → IsBuilt fixed (required ++ (l ∷ []) ∷ []) groups count (size + 1)
IsBuilt-require fixed required groups count size l b h k = record {
  determined = b.determined;
  grouped = b.grouped;
  posed = rw (variables-append required ((l ∷ []) ∷ [])) (omega (arith, b.posed));
  sized = rw (literals-append required ((l ∷ []) ∷ [])) (omega (arith, b.sized));
  few = b.few;
  short = k;
}

pub length-flip_all : (f : Bool) (ls : List Lit) → length (flip_all f ls) ≡ length ls
length-flip_all f [] = refl
length-flip_all f (l ∷ ls) = omega (arith, length-flip_all f ls)

pub clause_variables-flip_all : (f : Bool) (ls : List Lit) → clause_variables (flip_all f ls) ≡ clause_variables ls
clause_variables-flip_all f [] = refl
clause_variables-flip_all true (l ∷ ls) = omega (arith, clause_variables-flip_all true ls)
clause_variables-flip_all false (l ∷ ls) = omega (arith, clause_variables-flip_all false ls)

pub IsBuilt-gate : (fixed required groups : List (List Lit)) (count size more : ℕ) (o : Lit) (f : Bool) (ls : List Lit) → IsBuilt fixed required groups count size
    → o.var ≡ count → clause_variables ls ≤ count → more ≡ 3 * length ls + 1 → count + 1 ≤ 2000000 → size + more ≤ 30000000
    → IsBuilt (fixed ++ gate_clauses o (flip_all f ls)) required groups (count + 1) (size + more)
IsBuilt-gate fixed required groups count size more o f ls b e h m few short = record {
  determined =
      let was : IsDetermined fixed groups o.var = let P : ℕ → Type 0 = λ n. IsDetermined fixed groups n in subst P (sym e) b.determined in
      let P : ℕ → Type 0 = λ n. IsDetermined (fixed ++ gate_clauses o (flip_all f ls)) groups (n + 1) in
      subst P e (IsDetermined-gate fixed groups o (flip_all f ls) was (omega (arith, clause_variables-flip_all f ls)));
  grouped = AreGroups-more fixed (gate_clauses o (flip_all f ls)) groups b.grouped;
  posed = omega (arith, b.posed);
  sized = rw (literals-append fixed (gate_clauses o (flip_all f ls))) (omega (arith, b.sized, literals-gate o (flip_all f ls), length-flip_all f ls));
  few = few;
  short = short;
}

-- the pairs and the long clause of one more literal
pub pairs-take : (o : Lit) (f : Bool) (xs : List Lit) (i : ℕ) (l : Lit) → i < length xs → l ≡ get_or xs i l
    → pair_clauses o (flip_all f (take (i + 1) xs)) ≡ pair_clauses o (flip_all f (take i xs)) ++ (negate o ∷ cond f (negate l) l ∷ []) ∷ []
pairs-take o f xs i l h e = rw add-one (go xs i l h e)
  where
    go : (xs : List Lit) (i : ℕ) (l : Lit) → i < length xs → l ≡ get_or xs i l
        → pair_clauses o (flip_all f (take (suc i) xs)) ≡ pair_clauses o (flip_all f (take i xs)) ++ (negate o ∷ cond f (negate l) l ∷ []) ∷ []
    go [] i l h e = absurd (omega arith)
    go (m ∷ []) zero l h e = ap (λ (z : Lit). (negate o ∷ cond f (negate z) z ∷ []) ∷ []) (sym e)
    go (m ∷ k ∷ xs) zero l h e = ap (λ (z : Lit). (negate o ∷ cond f (negate z) z ∷ []) ∷ []) (sym e)
    go (m ∷ xs) (suc i) l h e = ap (λ (z : List (List Lit)). (negate o ∷ cond f (negate m) m ∷ []) ∷ z) (go xs i l (omega arith) e)

pub long-take : (f : Bool) (xs : List Lit) (i : ℕ) (l : Lit) → i < length xs → l ≡ get_or xs i l
    → map negate (flip_all f (take (i + 1) xs)) ≡ map negate (flip_all f (take i xs)) ++ negate (cond f (negate l) l) ∷ []
long-take f xs i l h e = rw add-one (go xs i l h e)
  where
    go : (xs : List Lit) (i : ℕ) (l : Lit) → i < length xs → l ≡ get_or xs i l
        → map negate (flip_all f (take (suc i) xs)) ≡ map negate (flip_all f (take i xs)) ++ negate (cond f (negate l) l) ∷ []
    go [] i l h e = absurd (omega arith)
    go (m ∷ []) zero l h e = ap (λ (z : Lit). negate (cond f (negate z) z) ∷ []) (sym e)
    go (m ∷ k ∷ xs) zero l h e = ap (λ (z : Lit). negate (cond f (negate z) z) ∷ []) (sym e)
    go (m ∷ xs) (suc i) l h e = ap (λ (z : List Lit). negate (cond f (negate m) m) ∷ z) (go xs i l (omega arith) e)

-- what the gate's literal means wherever the circuit's clauses hold
pub and_means : (v : ℕ → Bool) (fixed : List (List Lit)) (o : Lit) (ls : List Lit) → formula_true v (fixed ++ gate_clauses o (flip_all false ls)) ≡ true
    → lit_true v o ≡ list_all (lit_true v) ls
and_means v fixed o ls h =
    beq_same (lit_true v o) (list_all (lit_true v) (flip_all false ls)) (sym (gate_true v o (flip_all false ls)) ∙ (all_split (clause_true v) fixed (gate_clauses o (flip_all false ls)) h).1)
    ∙ ap (list_all (lit_true v)) (unflipped ls)
  where
    unflipped : (ls : List Lit) → flip_all false ls ≡ ls
    unflipped [] = refl
    unflipped (l ∷ ls) = ap (λ (z : List Lit). l ∷ z) (unflipped ls)

pub or_means : (v : ℕ → Bool) (fixed : List (List Lit)) (o : Lit) (ls : List Lit) → formula_true v (fixed ++ gate_clauses o (flip_all true ls)) ≡ true
    → lit_true v (negate o) ≡ list_any (lit_true v) ls
or_means v fixed o ls h =
    lit_true-negate v o
    ∙ (ap not (beq_same (lit_true v o) (list_all (lit_true v) (flip_all true ls)) (sym (gate_true v o (flip_all true ls)) ∙ (all_split (clause_true v) fixed (gate_clauses o (flip_all true ls)) h).1))
    ∙ turned ls)
  where
    turned : (ls : List Lit) → not (list_all (lit_true v) (flip_all true ls)) ≡ list_any (lit_true v) ls
    turned [] = refl
    turned (l ∷ ls) = rw (lit_true-negate v l) (split (lit_true v l) (list_all (lit_true v) (flip_all true ls)) (list_any (lit_true v) ls) (turned ls))
      where
        split : (a b c : Bool) → not b ≡ c → not (not a && b) ≡ a || c
        split true b c h = refl
        split false b c h = h

pub on_ok : {T E : Type 0} (r : Result T E) (P : Type 0) → is_err r ≡ false → OnOk r P → P
on_ok (Ok x) P h k = k
on_ok (Err e) P h k = cc

-- what `and` and `or` ensure of their literal, by the clauses of the gate
pub and_result : {E : Type 0} (r : Result Lit E) (old new : List (List Lit)) (ls : List Lit) → IfOk r (λ o. new ≡ old ++ gate_clauses o (flip_all false ls))
    → IfOk r (λ o. (v : ℕ → Bool) → formula_true v new ≡ true → lit_true v o ≡ list_all (lit_true v) ls)
and_result (Ok o) old new ls e = λ v h. and_means v old o ls (ap (formula_true v) (sym e) ∙ h)
and_result (Err x) old new ls e = tt

pub or_result : (o l : Lit) (old new : List (List Lit)) (ls : List Lit) → l ≡ negate o → new ≡ old ++ gate_clauses o (flip_all true ls)
    → (v : ℕ → Bool) → formula_true v new ≡ true → lit_true v l ≡ list_any (lit_true v) ls
or_result o l old new ls n e v h = ap (lit_true v) n ∙ or_means v old o ls (ap (formula_true v) (sym e) ∙ h)

pub within_limits : (fixed required groups : List (List Lit)) (count size : ℕ) → IsBuilt fixed required groups count size → IsWithinLimits count (literals fixed + literals required)
within_limits fixed required groups count size b = (b.few, omega (arith, b.short, b.sized))
