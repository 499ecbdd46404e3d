-- When a line of a derivation is accepted by its hints, and what is accepted as a whole.
use Rattle.std.specs.Prelude.{◌≡◌, ℕ, ◌+◌, ◌-◌, ◌<◌, Bool, false, ◌&&◌, ◌||◌, not, ◌==◌, if◌then◌else◌, Option, Some, None, List, [], ◌∷◌, ◌++◌, length, slice_index_or, slice_get, take, filter, map}
use Rattle.std.specs.List.{list_any, list_all}
use Rattle.cnf_base.specs.declared.lit.Lit.{Lit}
use Rattle.cnf_base.specs.declared.line.Line.{Line}
use Rattle.cnf_base.specs.Clauses.{is_same, is_negation}
use Rattle.cnf_base.specs.Known.{Partial, is_true, is_false, made_true}

-- what becomes of a line
pub data Outcome : Type 0 where
  accepted : Outcome
  tautology : Outcome
  no_such_hint : ℕ → Outcome
  not_unit : ℕ → Outcome
  no_conflict : Outcome

-- whether a clause has a literal and its negation
abbrev pub is_tautology : List Lit → Bool
is_tautology [] = false
is_tautology (l ∷ c) = list_any (is_negation l) c || is_tautology c

-- the values that make each literal of a clause false
abbrev pub falsified : List Lit → Partial
falsified [] n = None
falsified (l ∷ c) n = if l.var == n then Some (not l.positive) else falsified c n

-- whether each literal of a clause is false
abbrev pub is_all_false : Partial → List Lit → Bool
is_all_false p c = list_all (is_false p) c

-- the literals of a clause that aren't false
abbrev pub rest : Partial → List Lit → List Lit
rest p c = filter (λ l. not (is_false p l)) c

-- the one literal of a list, where it has no other and that one isn't true
abbrev pub only : Partial → List Lit → Option Lit
only p [] = None
only p (l ∷ ls) = if not (is_true p l) && list_all (is_same l) ls then Some l else None

-- the literal of a clause that has no value, where all others are false
abbrev pub lone : Partial → List Lit → Option Lit
lone p c = only p (rest p c)

abbrev pub at_clause : Option (List Lit) → ℕ → (List Lit → Outcome) → Outcome
at_clause None i next = no_such_hint i
at_clause (Some c) i next = next c

abbrev pub at_lone : Option Lit → ℕ → (Lit → Outcome) → Outcome
at_lone None i next = not_unit i
at_lone (Some l) i next = next l

-- the hinted clauses are taken in turn: each but the last makes a literal true, and the last is false; `i` is the place
abbrev pub follow : List (List Lit) → Partial → ℕ → List ℕ → Outcome
follow cs p i [] = no_conflict
follow cs p i (h ∷ []) = at_clause (slice_get cs h) i (λ c. if is_all_false p c then accepted else no_conflict)
follow cs p i (h ∷ g ∷ hs) =
    at_clause (slice_get cs h) i (λ c. at_lone (lone p c) i (λ l. follow cs (made_true p l) (i + 1) (g ∷ hs)))

-- what becomes of a line after the clauses of the formula and the lines before it
abbrev pub outcome : List (List Lit) → List Lit → List ℕ → Outcome
outcome cs c hints = if is_tautology c then tautology else follow cs (falsified c) 0 hints

abbrev pub clauses_of : List Line → List (List Lit)
clauses_of steps = map (λ s. s.clause) steps

-- each line is accepted after the formula and the lines before it
abbrev pub AreAccepted : List (List Lit) → List Line → Type 0
AreAccepted f steps = (i : ℕ) (d : Line) → i < length steps
    → outcome (f ++ clauses_of (take i steps)) (slice_index_or steps i d).clause (slice_index_or steps i d).hints ≡ accepted

-- there is a last line, and it is the empty clause
pub record EndsEmpty (steps : List Line) : Type 0 where
  pub some : 0 < length steps
  pub last : (d : Line) → (slice_index_or steps (length steps - 1) d).clause ≡ []

-- the derivation is accepted, and its last line is the empty clause
pub record IsRefutation (f : List (List Lit)) (steps : List Line) : Type 0 where
  pub lines : AreAccepted f steps
  pub ends : EndsEmpty steps
