-- What a decision says.
use Rattle.std.specs.Prelude.{◌≡◌, ℕ, ◌<◌, ◌≤◌, Bool, List, length}
use Rattle.cnf_base.specs.Clauses.{IsSatisfied}
use Rattle.cnf_check.specs.Checked.{Checked}
use Rattle.cnf_gate.specs.Circuit.{Drawn}
use Rattle.two_level.specs.Asking.{formula_of, Posed, Tried, Gives, below}
use Rattle.two_level.specs.declared.deciding.Verdict.{Verdict}
use Rattle.two_level.specs.declared.deciding.Verdict.TheVariants.{Holds, Fails, Spent}

-- no answer meets a case
abbrev pub IsUnmet : {Case : Type 0} → ℕ → (ℕ → Case → Type 0) → Case → Type 0
IsUnmet count meets k = (n : ℕ) → n < count → meets n k → ⊥

module _ {Case : Type 0} (is_case : Case → Type 0) (count : ℕ) (meets : ℕ → Case → Type 0) (asks : List ℕ → Drawn → Type 0) (most : ℕ) where
  -- every case is met by some answer, and the refuted formula is that of a circuit that asks for all answers
  pub record EachIsMet (r : Checked) : Type 0 where
    pub met : (k : Case) → is_case k → Gives meets (below count) k
    pub question : Drawn
    pub asks_for : asks (below count) question
    pub formula : r.formula ≡ formula_of question

  -- the assignment stands for a case by the last question, no answer meets it, and the refuted formula is that of the last rival, whose case it is
  pub record SomeIsUnmet (posed : Posed Case) (tried : Tried Case) (a : List Bool) (r : Checked) : Type 0 where
    pub solves : IsSatisfied posed.formula a
    pub is_one : is_case (posed.case_of a)
    pub unmet : IsUnmet count meets (posed.case_of a)
    pub formula : r.formula ≡ tried.formula
    pub same : tried.case ≡ posed.case_of a

  -- the budget is below what a circuit may ask, and as many lines as it were accepted
  pub record IsOver (budget : ℕ) (e : Checked) : Type 0 where
    pub small : budget < most
    pub many : budget ≤ length e.lines

  abbrev pub Decides : ℕ → Posed Case → Tried Case → Verdict → Type 0
  Decides budget posed tried (Holds r) = EachIsMet r
  Decides budget posed tried (Fails a r) = SomeIsUnmet posed tried a r
  Decides budget posed tried (Spent e) = IsOver budget e
