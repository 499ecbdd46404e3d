use Rattle.std.proofs.Common.{◌≡◌, take, false}
use Rattle.decide_tests.specs.Tables.{is_met}
use Rattle.decide_tests.proofs.rows.is_met.Given as goal

abbrev pub invariant-loop-answer : goal.invariant-loop-answer
invariant-loop-answer l = is_met l.rows (take l.answer-index l.answers) l.case ≡ false
