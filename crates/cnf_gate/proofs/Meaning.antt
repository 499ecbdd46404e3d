-- The clauses of a gate say that its literal is true exactly where each given one is.
use Rattle.std.proofs.Common.{◌≡◌, ℕ, ◌+◌, ◌*◌, ◌<◌, ◌≤◌, List, [], ◌∷◌, length, map, arith, sym, ◌∙◌, Option, Some, None, Bool, true, false, not, ◌&&◌, ◌||◌, refl, ap}
use Rattle.std.specs.Prelude.{is_none, is_some}
use Rattle.std.specs.Bool.{beq}
use Rattle.std.specs.List.{list_all}
use Rattle.cnf_base.specs.declared.lit.Lit.{Lit}
use Rattle.cnf_base.specs.Clauses.{negate, lit_true, clause_true, formula_true, clause_variables, variables}
use Rattle.cnf_base.specs.Known.{Partial, is_true, is_false, is_value}
use Rattle.cnf_base.specs.Derivation.{rest, only, lone, is_all_false}
use Rattle.cnf_base.proofs.Sound.{and_true}
use Rattle.cnf_gate.specs.Gates.{pair_clauses, gate_clauses, literals}
use Rattle.cnf_gate.specs.Built.{is_quiet}

beq-not_right : (a b : Bool) → beq a (not b) ≡ not (beq a b)
beq-not_right true true = refl
beq-not_right true false = refl
beq-not_right false true = refl
beq-not_right false false = refl

pub lit_true-negate : (v : ℕ → Bool) (l : Lit) → lit_true v (negate l) ≡ not (lit_true v l)
lit_true-negate v l = beq-not_right (v l.var) l.positive

pub clause_true-negate : (v : ℕ → Bool) (ls : List Lit) → clause_true v (map negate ls) ≡ not (list_all (lit_true v) ls)
clause_true-negate v [] = refl
clause_true-negate v (l ∷ ls) = rw (lit_true-negate v l, clause_true-negate v ls) (split (lit_true v l) (list_all (lit_true v) ls))
  where
    split : (a b : Bool) → not a || not b ≡ not (a && b)
    split true b = refl
    split false b = refl

pub pairs_true : (v : ℕ → Bool) (o : Lit) (ls : List Lit) → formula_true v (pair_clauses o ls) ≡ not (lit_true v o) || list_all (lit_true v) ls
pairs_true v o [] = ends (not (lit_true v o))
  where
    ends : (a : Bool) → true ≡ a || true
    ends true = refl
    ends false = refl
pairs_true v o (l ∷ ls) = rw (lit_true-negate v o, pairs_true v o ls) (join (not (lit_true v o)) (lit_true v l) (list_all (lit_true v) ls))
  where
    join : (a b c : Bool) → (a || (b || false)) && (a || c) ≡ a || (b && c)
    join true b c = refl
    join false true c = refl
    join false false c = refl

-- a gate means its formula
pub gate_true : (v : ℕ → Bool) (o : Lit) (ls : List Lit) → formula_true v (gate_clauses o ls) ≡ beq (lit_true v o) (list_all (lit_true v) ls)
gate_true v o ls = rw (clause_true-negate v ls, pairs_true v o ls) (same (lit_true v o) (list_all (lit_true v) ls))
  where
    same : (a b : Bool) → (a || not b) && (not a || b) ≡ beq a b
    same true true = refl
    same true false = refl
    same false true = refl
    same false false = refl

-- how many literals a gate has
pub literals-gate : (o : Lit) (ls : List Lit) → literals (gate_clauses o ls) ≡ 3 * length ls + 1
literals-gate o ls = omega (arith, pairs o ls, long ls)
  where
    pairs : (o : Lit) (ls : List Lit) → literals (pair_clauses o ls) ≡ 2 * length ls
    pairs o [] = refl
    pairs o (l ∷ ls) = omega (arith, pairs o ls)

    long : (ls : List Lit) → length (map negate ls) ≡ length ls
    long [] = refl
    long (l ∷ ls) = omega (arith, long ls)

-- the least number above each variable of a gate
pub variables-gate : (o : Lit) (ls : List Lit) → clause_variables ls ≤ o.var → variables (gate_clauses o ls) ≡ o.var + 1
variables-gate o ls h = omega (arith, long ls, pairs o ls h)
  where
    long : (ls : List Lit) → clause_variables (map negate ls) ≡ clause_variables ls
    long [] = refl
    long (l ∷ ls) = omega (arith, long ls)

    pairs : (o : Lit) (ls : List Lit) → clause_variables ls ≤ o.var → variables (pair_clauses o ls) ≤ o.var + 1
    pairs o [] h = omega arith
    pairs o (l ∷ ls) h = omega (arith, pairs o ls (omega arith))

-- values that agree on the variables of a clause or a formula
pub clause_agrees : (v w : ℕ → Bool) (c : List Lit) → ((n : ℕ) → n < clause_variables c → v n ≡ w n)
    → (clause_true v c ≡ clause_true w c) × (list_all (lit_true v) c ≡ list_all (lit_true w) c)
clause_agrees v w [] h = (refl, refl)
clause_agrees v w (l ∷ c) h =
    let here : v l.var ≡ w l.var = h l.var (omega arith) in
    let more = clause_agrees v w c (λ n k. h n (omega arith)) in
    (rw (here, more.0) refl, rw (here, more.1) refl)

pub formula_agrees : (v w : ℕ → Bool) (f : List (List Lit)) → ((n : ℕ) → n < variables f → v n ≡ w n) → formula_true v f ≡ formula_true w f
formula_agrees v w [] h = refl
formula_agrees v w (c ∷ f) h =
    rw ((clause_agrees v w c (λ n k. h n (omega arith))).0, formula_agrees v w f (λ n k. h n (omega arith))) refl

-- ---- unit propagation through a gate

valued : (x : Option Bool) (b : Bool) → is_some x ≡ true → is_value x (not b) ≡ false → is_value x b ≡ true
valued None b h k = cc
valued (Some true) true h k = refl
valued (Some true) false h k = cc
valued (Some false) true h k = cc
valued (Some false) false h k = refl

pub false_negate : (p : Partial) (l : Lit) → is_false p (negate l) ≡ is_true p l
false_negate p l = ap (is_value (p l.var)) (twice l.positive)
  where
    twice : (a : Bool) → not (not a) ≡ a
    twice true = refl
    twice false = refl

unset : (x : Option Bool) (b : Bool) → x ≡ None → is_value x b ≡ false
unset x b h = rw h refl

-- whether each literal has a value
abbrev pub is_valued : Partial → List Lit → Bool
is_valued p ls = list_all (λ l. is_some (p l.var)) ls

-- where the gate's literal has no value, and its inputs have, the pairs are quiet only if each input is true
pub pairs_quiet : (p : Partial) (o : Lit) (ls : List Lit) → p o.var ≡ None → is_valued p ls ≡ true → is_quiet p (pair_clauses o ls) ≡ true → list_all (is_true p) ls ≡ true
pairs_quiet p o [] none h k = refl
pairs_quiet p o (l ∷ ls) none h k =
    let s = and_true (is_some (p l.var)) (is_valued p ls) h in
    let t = and_true (is_none (lone p (negate o ∷ l ∷ [])) && not (is_all_false p (negate o ∷ l ∷ []))) (is_quiet p (pair_clauses o ls)) k in
    let unfalse : is_false p (negate o) ≡ false = unset (p o.var) (not (not o.positive)) none in
    let free : is_true p (negate o) ≡ false = unset (p o.var) (not o.positive) none in
    let here : is_true p l ≡ true =
    elim (is_false p l) as (λ b. is_false p l ≡ b → is_true p l ≡ true) [
      | true ↦ λ f.
          let single : rest p (negate o ∷ l ∷ []) ≡ negate o ∷ [] = rw (unfalse, f) refl in
          let is : lone p (negate o ∷ l ∷ []) ≡ Some (negate o) = ap (only p) single ∙ (rw free refl) in
          let quiet = (and_true (is_none (lone p (negate o ∷ l ∷ []))) (not (is_all_false p (negate o ∷ l ∷ []))) t.0).0 in
          let wrong : is_none (Some (negate o)) ≡ true = ap is_none (sym is) ∙ quiet in
          cc
      | false ↦ λ f. valued (p l.var) l.positive s.0 f
    ] refl in
    rw here (pairs_quiet p o ls none s.1 t.1)

pub all_true_negated : (p : Partial) (ls : List Lit) → list_all (is_true p) ls ≡ true → rest p (map negate ls) ≡ []
all_true_negated p [] h = refl
all_true_negated p (l ∷ ls) h =
    let s = and_true (is_true p l) (list_all (is_true p) ls) h in
    rw (false_negate p l, s.0) (all_true_negated p ls s.1)

-- a quiet gate whose inputs have values has one itself
pub gate_quiet : (p : Partial) (o : Lit) (ls : List Lit) → is_valued p ls ≡ true → is_quiet p (gate_clauses o ls) ≡ true → is_some (p o.var) ≡ true
gate_quiet p o ls h k =
    elim (p o.var) as (λ x. p o.var ≡ x → is_some x ≡ true) [
      | None ↦ λ none.
          let t = and_true (is_none (lone p (o ∷ map negate ls)) && not (is_all_false p (o ∷ map negate ls))) (is_quiet p (pair_clauses o ls)) k in
          let all : list_all (is_true p) ls ≡ true = pairs_quiet p o ls none h t.1 in
          let unfalse : is_false p o ≡ false = unset (p o.var) (not o.positive) none in
          let free : is_true p o ≡ false = unset (p o.var) o.positive none in
          let single : rest p (o ∷ map negate ls) ≡ o ∷ [] = rw unfalse (ap (λ (z : List Lit). o ∷ z) (all_true_negated p ls all)) in
          let is : lone p (o ∷ map negate ls) ≡ Some o = ap (only p) single ∙ (rw free refl) in
          let quiet = (and_true (is_none (lone p (o ∷ map negate ls))) (not (is_all_false p (o ∷ map negate ls))) t.0).0 in
          let wrong : is_none (Some o) ≡ true = ap is_none (sym is) ∙ quiet in
          cc
      | Some b ↦ λ _. refl
    ] refl
