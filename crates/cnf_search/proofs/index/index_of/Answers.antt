use Rattle.std.proofs.Common.{arith, ap, ◌∙◌}
use Rattle.cnf_base.specs.Clauses.{variables}
use Rattle.cnf_base.proofs.VariableBounds.{clause_read}
use Rattle.cnf_search.proofs.Named.{IsBegun-next, IsBegun-end}
use Rattle.cnf_search.proofs.index.index_of.Goals as goal

pub add_clause-requires : goal.add_clause-requires
add_clause-requires c =
    omega (
      arith,
      clause_read c.slice-clause-items.result.now c.loop-number.number c.clause-item.result (omega arith) c.clause-item.is,
      ap variables c.slice-clause-items.ensures,
      c.loop-number.invariant.1,
      c.requires,
    )

pub loop-number-preserved : goal.loop-number-preserved
loop-number-preserved c = (
  IsBegun-next c.args.formula.now c.slice-clause-items.result.now c.loop-number.lists.items c.add_clause.new.lists.items c.loop-number.number c.clause-item.result c.slice-clause-items.ensures
      c.loop-number.invariant.0 (omega arith) c.clause-item.is c.in_ok-add_clause.ensures.names,
  c.in_ok-add_clause.ensures.len ∙ c.loop-number.invariant.1,
)

pub returns-clause-index : goal.returns-clause-index
returns-clause-index c =
    IsBegun-end c.args.formula.now c.slice-clause-items.result.now c.loop-number.lists.items c.loop-number.number c.slice-clause-items.ensures c.loop-number.invariant.0 (omega arith)
