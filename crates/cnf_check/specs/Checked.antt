-- What a checker, a refutation and an effort keep.
use Rattle.std.specs.Prelude.{◌≡◌, ℕ, ◌≤◌, ◌<◌, ◌==◌, Bool, false, List, [], ◌++◌, length, slice_index_or}
use Rattle.std.specs.List.{list_any}
use Rattle.cnf_base.specs.declared.lit.Lit.{Lit}
use Rattle.cnf_base.specs.declared.line.Line.{Line}
use Rattle.cnf_base.specs.Clauses.{variables, same_literals, IsSatisfied}
use Rattle.cnf_base.specs.Known.{Known}
use Rattle.cnf_base.specs.Derivation.{AreAccepted, clauses_of}

-- a formula and the lines that were accepted for it
pub record Checked : Type 0 where
  pub formula : List (List Lit)
  pub lines : List Line

-- the clauses by which a next line may be accepted
abbrev pub clauses_after : List (List Lit) → List Line → List (List Lit)
clauses_after f lines = f ++ clauses_of lines

-- no two lines have the same literals
abbrev pub AreDistinct : List Line → Type 0
AreDistinct lines = (i j : ℕ) (d : Line) → i < j → j < length lines
    → same_literals (slice_index_or lines i d).clause (slice_index_or lines j d).clause ≡ false

-- whether some line is the empty clause
abbrev pub has_empty : List Line → Bool
has_empty lines = list_any (λ l. length l.clause == 0) lines

-- what a checker keeps true of its parts: its lines are accepted, its trail has room and no literal, and its flag says whether the empty clause is among the lines
pub record IsReady (f : List (List Lit)) (lines : List Line) (trail : Known) (finished : Bool) : Type 0 where
  pub accepted : AreAccepted f lines
  pub idle : trail.lits ≡ []
  pub room : variables (clauses_after f lines) ≤ trail.size
  pub ended : finished ≡ has_empty lines

-- no assignment satisfies a formula
abbrev pub HasNoSolution : List (List Lit) → Type 0
HasNoSolution f = (a : List Bool) → IsSatisfied f a → ⊥

-- what an effort keeps true
abbrev pub Tries : List (List Lit) → List Line → Type 0
Tries f lines = AreAccepted f lines × AreDistinct lines
