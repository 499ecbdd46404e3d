use Rattle.std.proofs.Common.{ap, ◌∙◌}
use Rattle.decide_tests.specs.Tables.{meets_at}
use Rattle.decide_tests.proofs.Choosing.{meeting_solved}
use Rattle.decide_tests.proofs.table.TableProblem.rival.Goals as goal

pub returns-clause-solved : goal.returns-clause-solved
returns-clause-solved c =
    let m = c.args.self.now.rows in
    meeting_solved m _ c.meets-zero.result c.meets-one.result _ _
    (c.meets-zero.ensures ∙ ap (meets_at m 0) c.is_true-case.ensures)
    (c.meets-one.ensures ∙ ap (meets_at m 1) c.is_true-case.ensures)
    c.in_ok-circuit.ensures.ok
