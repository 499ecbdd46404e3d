use Rattle.std.proofs.Common.{ap, List, subst}
use Rattle.cnf_base.specs.declared.lit.Lit.{Lit}
use Rattle.cnf_base.specs.Clauses.{value_in}
use Rattle.cnf_base.proofs.Sound.{refuted}
use Rattle.cnf_check.specs.Checked.{HasNoSolution, Checked}
use Rattle.cnf_check.proofs.kept.Refutation.formula.Goals as goal

pub returns-clause-unsatisfied : goal.returns-clause-unsatisfied
returns-clause-unsatisfied c =
    let law : HasNoSolution c.self.inside.formula = λ a s.
    refuted c.self.inside.formula c.self.inside.lines (value_in a) c.self.invariant s.clauses in
    let P : List (List Lit) → Type 0 = HasNoSolution in
    subst P (ap (λ (k : Checked). k.formula) c.self.view_is) law
