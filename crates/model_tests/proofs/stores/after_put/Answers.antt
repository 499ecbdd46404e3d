use Rattle.std.proofs.Common.{rules}
use Rattle.std.specs.FinMap.{gets}
use Rattle.model_tests.proofs.stores.after_put.Goals as goal

pub get-requires : goal.get-requires
get-requires g c = grind (gets, rules)

pub returns-clause-copy : goal.returns-clause-copy
returns-clause-copy g c = cc (c.put.ensures, c.get.ensures, c.in_ok-copy.ensures)
