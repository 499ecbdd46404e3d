use Rattle.std.proofs.Common.{arith, sym}
use Rattle.cnf_base.proofs.VariableBounds.{variables-there}
use Rattle.cnf_search.specs.Lines.{known}
use Rattle.cnf_search.specs.Trails.{values}
use Rattle.cnf_search.proofs.Traces.{lone_is_reason}
use Rattle.cnf_search.proofs.unit.task_at.Goals as goal

pub is_false-requires : goal.is_false-requires
is_false-requires c = omega (arith, variables-there (known c.args.checker.now) c.args.number c.in-Some.clause.now (sym c.in-Some.ensures))

pub lone-requires : goal.lone-requires
lone-requires c = omega (arith, variables-there (known c.args.checker.now) c.args.number c.in-Some.clause.now (sym c.in-Some.ensures))

pub returns-in-Some-lone : goal.returns-in-Some-lone
returns-in-Some-lone c = record {
  clause = c.in-Some.clause.now;
  named = sym c.in-Some.ensures;
  reason = lone_is_reason (values c.args.trace.now.entries) c.in-Some.clause.now c.in-Some-lone.lit (sym c.in-Some-lone.ensures);
}
