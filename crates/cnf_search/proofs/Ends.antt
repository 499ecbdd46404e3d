-- A quiet trail that values every variable satisfies the formula.
use Rattle.std.proofs.Common.{◌≡◌, ℕ, ◌<◌, List, [], ◌∷◌, arith, Option, Some, None, Bool, true, false, not, ◌&&◌, ◌||◌, refl}
use Rattle.std.specs.Prelude.{is_some, is_none, unwrap_or}
use Rattle.std.specs.Bool.{beq}
use Rattle.cnf_base.specs.declared.lit.Lit.{Lit}
use Rattle.cnf_base.specs.Clauses.{lit_true, clause_true, formula_true, clause_variables, variables}
use Rattle.cnf_base.specs.Known.{Partial, is_false, is_value}
use Rattle.cnf_base.specs.Derivation.{lone, is_all_false}
use Rattle.cnf_base.proofs.Sound.{and_true}
use Rattle.cnf_gate.specs.Built.{is_quiet}

-- the values of a partial assignment that has all of them
abbrev pub completed : Partial → ℕ → Bool
completed p n = unwrap_or (p n) false

valued_true : (x : Option Bool) (b : Bool) → is_some x ≡ true → is_value x (not b) ≡ false → beq (unwrap_or x false) b ≡ true
valued_true None b h k = cc
valued_true (Some true) true h k = refl
valued_true (Some true) false h k = cc
valued_true (Some false) true h k = cc
valued_true (Some false) false h k = refl

not_false : (b : Bool) → not b ≡ true → b ≡ false
not_false true h = cc
not_false false h = refl

clause_solved : (p : Partial) (c : List Lit) → ((n : ℕ) → n < clause_variables c → is_some (p n) ≡ true) → is_all_false p c ≡ false → clause_true (completed p) c ≡ true
clause_solved p [] v h = cc
clause_solved p (l ∷ c) v h =
    elim (is_false p l) as (λ b. is_false p l ≡ b → b && is_all_false p c ≡ false → lit_true (completed p) l || clause_true (completed p) c ≡ true) [
      | true ↦ λ _ k. rw (clause_solved p c (λ n m. v n (omega arith)) k) (or_true (lit_true (completed p) l))
      | false ↦ λ f _. rw (valued_true (p l.var) l.positive (v l.var (omega arith)) f) refl
    ] refl h
  where
    or_true : (b : Bool) → b || true ≡ true
    or_true true = refl
    or_true false = refl

pub quiet_solved : (p : Partial) (f : List (List Lit)) → ((n : ℕ) → n < variables f → is_some (p n) ≡ true) → is_quiet p f ≡ true → formula_true (completed p) f ≡ true
quiet_solved p [] v q = refl
quiet_solved p (c ∷ f) v q =
    let s = and_true (is_none (lone p c) && not (is_all_false p c)) (is_quiet p f) q in
    let t = and_true (is_none (lone p c)) (not (is_all_false p c)) s.0 in
    rw (clause_solved p c (λ n m. v n (omega arith)) (not_false (is_all_false p c) t.1)) (quiet_solved p f (λ n m. v n (omega arith)) s.1)
