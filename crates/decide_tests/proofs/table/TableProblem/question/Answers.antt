use Rattle.decide_tests.proofs.Choosing.{unmet_asked, unmet_told}
use Rattle.decide_tests.proofs.table.TableProblem.question.Goals as goal

pub returns-clause-asks : goal.returns-clause-asks
returns-clause-asks c = unmet_asked c.args.self.now.rows c.args.answers.now c.is_met-first.result c.is_met-second.result _ _
    c.is_met-first.ensures c.is_met-second.ensures c.in_ok-circuit.ensures.ok

pub returns-clause-cases : goal.returns-clause-cases
returns-clause-cases c = unmet_told c.args.self.now.rows c.args.answers.now c.is_met-first.result c.is_met-second.result _ _
    c.is_met-first.ensures c.is_met-second.ensures c.in_ok-circuit.ensures.ok
