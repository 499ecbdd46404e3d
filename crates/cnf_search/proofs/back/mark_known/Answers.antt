use Rattle.std.proofs.Common.{arith, sym}
use Rattle.cnf_base.proofs.VariableBounds.{variables-there}
use Rattle.cnf_search.specs.Lines.{known}
use Rattle.cnf_search.proofs.back.mark_known.Goals as goal

pub mark-requires : goal.mark-requires
mark-requires c = omega (arith, variables-there (known c.args.checker.now) c.args.number c.in-Some.clause.now (sym c.in-Some.ensures), c.requires)
