use Rattle.load_laws.proofs.Loading.{on_cycle, one_too_many}
use Rattle.load_laws.proofs.load_law.refused_imports_are_shown.Goals as goal

pub returns-clause-cycle : goal.returns-clause-cycle
returns-clause-cycle c = λ files name again before now e. on_cycle files name before now again e

pub returns-clause-too_many : goal.returns-clause-too_many
returns-clause-too_many c = λ files name next before now e. one_too_many files name before now next e
