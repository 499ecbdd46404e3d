use Rattle.step_laws.proofs.Printing.{shows_run, words_for_run}
use Rattle.step_laws.proofs.run_law.printed_runs_are_runs.Goals as goal

pub returns-clause-shows : goal.returns-clause-shows
returns-clause-shows c = λ m sources formed inputs words steps full done. shows_run m sources formed inputs words steps full done

pub returns-clause-each : goal.returns-clause-each
returns-clause-each c = λ m sources formed inputs states run. words_for_run m sources formed inputs states run
