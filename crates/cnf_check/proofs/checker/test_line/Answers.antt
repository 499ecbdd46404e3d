use Rattle.std.proofs.Common.{sym, ◌∙◌}
use Rattle.cnf_base.specs.Known.{value_of}
use Rattle.cnf_check.specs.Checked.{clauses_after}
use Rattle.cnf_check.proofs.Steps.{outcome_follows}
use Rattle.cnf_check.proofs.checker.test_line.Goals as goal

pub returns-clause-answer : goal.returns-clause-answer
returns-clause-answer c =
    outcome_follows (clauses_after c.args.formula.now c.args.lines.now) c.args.clause.now c.args.hints.now (value_of c.falsify.new.trail.lits) c.follow_hints.result
    (sym c.if-not-branch.false ∙ c.in_ok-falsify.ensures.tautology) (c.in_ok-falsify.ensures.values c.if-not-branch.false) c.follow_hints.ensures.answer
