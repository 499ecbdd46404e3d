-- What a search promises.
use Rattle.std.specs.Prelude.{◌≡◌, ℕ, ◌<◌, ◌≤◌, ◌++◌, length}
use Rattle.cnf_base.specs.Clauses.{IsSatisfied}
use Rattle.cnf_base.specs.Derivation.{AreAccepted, IsRefutation}
use Rattle.cnf_check.specs.Checked.{Checked, AreDistinct}
use Rattle.cnf_gate.specs.Circuit.{Drawn}
use Rattle.cnf_search.specs.Lines.{choices}
use Rattle.cnf_search.specs.declared.answer.Found.{Found}
use Rattle.cnf_search.specs.declared.answer.Found.TheVariants.{Solved, Refuted, Spent}

-- a refutation has the circuit's formula and an accepted derivation of different lines for it, and took at least one counted conflict
pub record IsRefutedBy (c : Drawn) (budget : ℕ) (r : Checked) : Type 0 where
  pub formula : r.formula ≡ c.fixed ++ c.required
  pub derivation : IsRefutation r.formula r.lines
  pub distinct : AreDistinct r.lines
  pub counted : 0 < budget

-- an effort has the circuit's formula and at least as many different accepted lines as the budget, and comes only where there are more choices than it
pub record IsSpentOn (c : Drawn) (budget : ℕ) (e : Checked) : Type 0 where
  pub formula : e.formula ≡ c.fixed ++ c.required
  pub accepted : AreAccepted e.formula e.lines
  pub distinct : AreDistinct e.lines
  pub many : budget ≤ length e.lines
  pub over : budget < choices c.groups

abbrev pub Finds : Drawn → ℕ → Found → Type 0
Finds c budget (Solved a) = IsSatisfied (c.fixed ++ c.required) a
Finds c budget (Refuted r) = IsRefutedBy c budget r
Finds c budget (Spent e) = IsSpentOn c budget e
