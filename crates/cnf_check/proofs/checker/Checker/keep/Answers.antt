use Rattle.std.proofs.Common.{◌≡◌, ◌≤◌, List, ◌∙◌, ap, arith, Bool, ◌||◌}
use Rattle.cnf_base.specs.declared.lit.Lit.{Lit}
use Rattle.cnf_base.specs.declared.line.Line.{Line}
use Rattle.cnf_base.specs.Clauses.{variables, clause_variables}
use Rattle.cnf_base.specs.Derivation.{outcome, accepted}
use Rattle.cnf_check.specs.Checked.{clauses_after, Checked}
use Rattle.cnf_check.proofs.Steps.{IsReady-push}
use Rattle.cnf_check.proofs.checker.Checker.keep.Goals as goal

pub invariant_of-self-2 : goal.invariant_of-self-2
invariant_of-self-2 c =
    let f : List (List Lit) = c.self.inside.formula in
    let lines : List Line = c.self.inside.lines in
    let now : outcome (clauses_after f lines) c.args.line.clause c.args.line.hints ≡ accepted =
    ap (λ (k : Checked). outcome (clauses_after k.formula k.lines) c.args.line.clause c.args.line.hints) c.self.view_is ∙ c.requires in
    let room : variables (clauses_after f lines) ≤ c.grow.new.self.size = omega (arith, c.self.invariant.room, c.in_ok-grow.ensures.rises) in
    let new : clause_variables c.args.line.clause ≤ c.grow.new.self.size = omega (arith, c.clause_variables.ensures.value, c.in_ok-grow.ensures.size) in
    rw c.in_ok-push.ensures.ok
    (IsReady-push f lines c.args.line c.grow.new.self.size c.grow.new.self.lits c.self.inside.finished (c.self.inside.finished || c.is_empty-ends.result) c.self.invariant.accepted now room new
    (c.in_ok-grow.ensures.lits ∙ c.self.invariant.idle) c.self.invariant.ended (ap (λ (b : Bool). c.self.inside.finished || b) c.is_empty-ends.ensures))
