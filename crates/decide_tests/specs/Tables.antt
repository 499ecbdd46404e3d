-- Which of two answers meets which of two cases, and what is asked by that.
use Rattle.std.specs.Prelude.{◌≡◌, ℕ, Bool, true, false, List, if◌then◌else◌, nat_eq}
use Rattle.std.specs.List.{list_any}
use Rattle.cnf_base.specs.declared.lit.Lit.{Lit}
use Rattle.cnf_base.specs.Clauses.{IsSatisfied, lit_true, value_in}
use Rattle.cnf_gate.specs.Circuit.{Drawn}
use Rattle.decide_tests.specs.declared.rows.Row.{Row}
use Rattle.decide_tests.specs.declared.rows.Rows.{Rows}
use Rattle.two_level.specs.Asking.{formula_of}
use Rattle.two_level.specs.declared.problem.EncError.{EncError}
use Rattle.two_level.specs.declared.problem.EncError.TheVariants.{TooLarge, TooWide, TooManyAnswers, Memory}

-- the row of an answer
abbrev pub row : Rows → ℕ → Row
row m n = if nat_eq n 0 then m.zero else m.one

-- whether the answer meets the case, where the first case is `true`
abbrev pub meets_at : Rows → ℕ → Bool → Bool
meets_at m n k = if k then (row m n).first else (row m n).second

abbrev pub Meets : Rows → ℕ → Bool → Type 0
Meets m n k = meets_at m n k ≡ true

-- whether one of the answers meets the case
abbrev pub is_met : Rows → List ℕ → Bool → Bool
is_met m ns k = list_any (λ n. meets_at m n k) ns

-- a circuit asks for answers where each case that none of them meets gives a solution
abbrev pub Asks : Rows → List ℕ → Drawn → Type 0
Asks m ns c = (k : Bool) → is_met m ns k ≡ false → (a : List Bool) × IsSatisfied (formula_of c) a

-- whether an assignment makes a literal true
abbrev pub is_first : Lit → List Bool → Bool
is_first l a = lit_true (value_in a) l

-- each solution stands for an answer that meets the case: answer 0 where it makes the literal true, else answer 1
abbrev pub Stands : Rows → List (List Lit) → Lit → Bool → Type 0
Stands m f l k = (a : List Bool) → IsSatisfied f a → Meets m (if is_first l a then 0 else 1) k

-- the refusals that a table may give
abbrev pub MayRefuse : Rows → EncError → Type 0
MayRefuse m TooManyAnswers = m.refuses_questions ≡ true
MayRefuse m TooWide = m.refuses_rivals ≡ true
MayRefuse m TooLarge = ⊥
MayRefuse m Memory = ⊥
