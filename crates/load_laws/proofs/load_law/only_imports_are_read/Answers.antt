use Rattle.load_laws.proofs.Loading.{absent_reached, long_reached}
use Rattle.load_laws.proofs.load_law.only_imports_are_read.Goals as goal

pub returns-clause-absent : goal.returns-clause-absent
returns-clause-absent c = λ files name missing before now e. absent_reached files name before now missing e

pub returns-clause-long : goal.returns-clause-long
returns-clause-long c = λ files name held before now e. long_reached files name before now held e
