-- The clauses of a group, one literal after the other.
use Rattle.std.specs.Prelude.{◌≡◌, ℕ, ◌+◌, ◌-◌, ◌*◌, ◌<◌, ◌≤◌, Bool, true, not, List, [], ◌∷◌, ◌++◌, length, is_some, if◌then◌else◌, max}
use Rattle.std.specs.List.{list_any}
use Rattle.cnf_base.specs.declared.lit.Lit.{Lit}
use Rattle.cnf_base.specs.Clauses.{negate, lit_true, formula_true, variables, clause_variables}
use Rattle.cnf_base.specs.Known.{Partial, is_true, is_false}
use Rattle.cnf_gate.specs.Gates.{gate_clauses, literals}
use Rattle.cnf_gate.specs.Built.{IsDetermined, is_quiet, is_choice, is_decided, is_agreed, exactly_one, AreGroups, AreRising}

-- at most one literal of a list is true
abbrev pub at_most_one : (ℕ → Bool) → List Lit → Bool
at_most_one v [] = true
at_most_one v (l ∷ ls) = if lit_true v l then not (list_any (lit_true v) ls) else at_most_one v ls

-- one more literal `x` of a group, where `s` is true exactly where an earlier one is: not both, and the negation of `o` is true where either is
abbrev pub rung_clauses : Lit → Lit → Lit → List (List Lit)
rung_clauses o s x = (negate x ∷ negate s ∷ []) ∷ gate_clauses o (negate s ∷ negate x ∷ [])

-- what holds of clauses with a group that is not whole yet: its literals so far, and one that is true exactly where one of them is
pub record IsLadder (fixed groups : List (List Lit)) (xs : List Lit) (s : Lit) (count : ℕ) : Type 0 where
  pub counted : max (variables fixed) (clause_variables xs) ≡ count
  pub grouped : variables groups ≤ count
  pub within : s.var < count
  pub means : (v : ℕ → Bool) → formula_true v fixed ≡ true → lit_true v s ≡ list_any (lit_true v) xs
  pub one : (v : ℕ → Bool) → formula_true v fixed ≡ true → at_most_one v xs ≡ true
  pub unique : (v w : ℕ → Bool) → formula_true v fixed ≡ true → formula_true w fixed ≡ true → is_agreed v w groups ≡ true
      → is_agreed v w (xs ∷ []) ≡ true → (n : ℕ) → n < count → v n ≡ w n
  pub exists : (u : ℕ → Bool) → is_choice u groups ≡ true → at_most_one u xs ≡ true
      → (v : ℕ → Bool) × (formula_true v fixed ≡ true) × (is_agreed v u groups ≡ true) × (is_agreed v u (xs ∷ []) ≡ true)
  pub down : (p : Partial) → is_decided p groups ≡ true → is_quiet p fixed ≡ true → is_false p s ≡ true → (n : ℕ) → n < count → is_some (p n) ≡ true
  pub up : (p : Partial) → is_decided p groups ≡ true → is_quiet p fixed ≡ true → list_any (is_true p) xs ≡ true
      → (is_true p s ≡ true) × ((n : ℕ) → n < count → is_some (p n) ≡ true)

-- what the clauses of a whole group make of a circuit whose variables are those before `first`
pub record IsGroup (more : List (List Lit)) (first size : ℕ) (g : List Lit) : Type 0 where
  pub long : length g ≡ size
  pub sized : literals more + 9 ≡ 10 * size
  pub rising : AreRising first g
  pub determined : (fixed groups : List (List Lit)) → IsDetermined fixed groups first → AreGroups fixed groups
      → IsDetermined (fixed ++ more) (groups ++ g ∷ []) (first + 2 * size - 1) × AreGroups (fixed ++ more) (groups ++ g ∷ [])
  pub means : (fixed groups : List (List Lit)) → IsDetermined fixed groups first → (v : ℕ → Bool) → formula_true v (fixed ++ more) ≡ true → exactly_one v g ≡ true
