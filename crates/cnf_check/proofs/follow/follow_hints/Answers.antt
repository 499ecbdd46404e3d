use Rattle.std.proofs.Common.{◌≡◌, ◌+◌, ◌<◌, length, refl, sym, ◌∙◌, ap, arith, get_or}
use Rattle.cnf_base.specs.Known.{value_of, made_true}
use Rattle.cnf_base.proofs.VariableBounds.{variables-there}
use Rattle.cnf_base.proofs.Told.{value_of-push_all}
use Rattle.cnf_check.specs.Checked.{clauses_after}
use Rattle.cnf_check.proofs.Scan.{only_is}
use Rattle.cnf_check.proofs.Steps.{follow_on}
use Rattle.cnf_check.proofs.follow.follow_hints.Goals as goal

pub is_clause_false-requires : goal.is_clause_false-requires
is_clause_false-requires c =
    omega (arith, variables-there (clauses_after c.args.formula.now c.args.lines.now) (get_or c.args.hints.now c.loop-i.i 0) c.in-Some.clause.now (sym c.in-Some.ensures))

pub lone_literal-requires : goal.lone_literal-requires
lone_literal-requires c =
    omega (arith, variables-there (clauses_after c.args.formula.now c.args.lines.now) (get_or c.args.hints.now c.loop-i.i 0) c.in-Some.clause.now (sym c.in-Some.ensures))

pub set-requires-clause-room : goal.set-requires-clause-room
set-requires-clause-room c =
    omega (
      arith,
      variables-there (clauses_after c.args.formula.now c.args.lines.now) (get_or c.args.hints.now c.loop-i.i 0) c.in-Some.clause.now (sym c.in-Some.ensures),
      (only_is (value_of c.loop-i.trail.lits) c.in-Some.clause.now c.in-Some-lone_literal.lit (sym c.in-Some-lone_literal.ensures)).1,
    )

pub set-requires-clause-fresh : goal.set-requires-clause-fresh
set-requires-clause-fresh c =
    (only_is (value_of c.loop-i.trail.lits) c.in-Some.clause.now c.in-Some-lone_literal.lit (sym c.in-Some-lone_literal.ensures)).0

pub loop-i-preserved : goal.loop-i-preserved
loop-i-preserved c =
    let more : value_of c.set.new.self.lits ≡ made_true (value_of c.loop-i.trail.lits) c.in-Some-lone_literal.lit =
    ap value_of c.in_ok-set.ensures.ok
    ∙ value_of-push_all c.loop-i.trail.lits c.in-Some-lone_literal.lit
    (only_is (value_of c.loop-i.trail.lits) c.in-Some.clause.now c.in-Some-lone_literal.lit (sym c.in-Some-lone_literal.ensures)).0 in
    let goes : c.loop-i.i + 1 < length c.args.hints.now = omega arith in
    let on = follow_on (clauses_after c.args.formula.now c.args.lines.now) (value_of c.loop-i.trail.lits) c.loop-i.i c.args.hints.now c.in-Some.clause.now c.in-Some-lone_literal.lit
    goes (sym c.in-Some.ensures) (sym c.in-Some-lone_literal.ensures) in
    (c.loop-i.invariant.0 ∙ (on ∙ rw more refl), c.in_ok-set.ensures.size ∙ c.loop-i.invariant.1)
