use Rattle.std.proofs.Common.{◌≡◌, ◌+◌, refl, sym, ◌∙◌, ap, arith, List, true, false, Some, None, drop}
use Rattle.cnf_base.specs.declared.lit.Lit.{Lit}
use Rattle.cnf_base.specs.Clauses.{clause_variables}
use Rattle.cnf_base.specs.Known.{value_of, Partial, made_true, is_true, is_false}
use Rattle.cnf_base.specs.Derivation.{is_tautology, falsified}
use Rattle.cnf_base.proofs.VariableBounds.{var_read}
use Rattle.cnf_base.proofs.Told.{value_of-push_all}
use Rattle.cnf_check.proofs.Scan.{drop_read, drop_end, unvalued}
use Rattle.cnf_check.proofs.Sweep.{sweep, nothing, sweep_true, sweep_skip, sweep_set, swept_none, swept_some}
use Rattle.cnf_check.proofs.follow.falsify.Goals as goal

pub is_true-requires : goal.is_true-requires
is_true-requires c =
    omega (
      arith,
      var_read c.slice-lit-items.result.now c.loop-lit.lit-index c.lit-item.result (omega arith) c.lit-item.is,
      ap clause_variables c.slice-lit-items.ensures,
      c.loop-lit.invariant.1,
      c.requires.room,
    )

pub is_false-requires : goal.is_false-requires
is_false-requires c =
    omega (
      arith,
      var_read c.slice-lit-items.result.now c.loop-lit.lit-index c.lit-item.result (omega arith) c.lit-item.is,
      ap clause_variables c.slice-lit-items.ensures,
      c.loop-lit.invariant.1,
      c.requires.room,
    )

pub set-requires-clause-room : goal.set-requires-clause-room
set-requires-clause-room c =
    omega (
      arith,
      var_read c.slice-lit-items.result.now c.loop-lit.lit-index c.lit-item.result (omega arith) c.lit-item.is,
      ap clause_variables c.slice-lit-items.ensures,
      c.loop-lit.invariant.1,
      c.requires.room,
      c.negated.ensures.var,
    )

pub returns-then-is_true-clause-tautology : goal.returns-then-is_true-clause-tautology
returns-then-is_true-clause-tautology c =
    let items : List Lit = c.slice-lit-items.result.now in
    let p : Partial = value_of c.loop-lit.trail.lits in
    let stops : sweep nothing items ≡ None =
    c.loop-lit.invariant.0
    ∙ (ap (sweep p) (drop_read items c.loop-lit.lit-index c.lit-item.result (omega arith) c.lit-item.is)
    ∙ sweep_true p c.lit-item.result (drop (c.loop-lit.lit-index + 1) items) (sym c.is_true.ensures ∙ c.if-is_true.true)) in
    let is : is_tautology c.args.clause.now ≡ true = ap is_tautology (sym c.slice-lit-items.ensures) ∙ swept_none items stops in
    rw is refl

pub loop-lit-preserved-then-is_false : goal.loop-lit-preserved-then-is_false
loop-lit-preserved-then-is_false c =
    let items : List Lit = c.slice-lit-items.result.now in
    let p : Partial = value_of c.loop-lit.trail.lits in (
      c.loop-lit.invariant.0
          ∙ (ap (sweep p) (drop_read items c.loop-lit.lit-index c.lit-item.result (omega arith) c.lit-item.is)
          ∙ sweep_skip p c.lit-item.result (drop (c.loop-lit.lit-index + 1) items) (sym c.is_true.ensures ∙ c.if-is_true.false) (sym c.is_false.ensures ∙ c.if-is_false.true)),
      c.loop-lit.invariant.1,
    )

pub loop-lit-preserved : goal.loop-lit-preserved
loop-lit-preserved c =
    let items : List Lit = c.slice-lit-items.result.now in
    let p : Partial = value_of c.loop-lit.trail.lits in
    let l : Lit = c.lit-item.result in
    let t : is_true p l ≡ false = sym c.is_true.ensures ∙ c.if-is_true.false in
    let f : is_false p l ≡ false = sym c.is_false.ensures ∙ c.if-is_false.false in
    let fresh : p c.negated.result.var ≡ None = ap p c.negated.ensures.var ∙ unvalued (p l.var) l.positive t f in
    let more : value_of c.set.new.self.lits ≡ made_true p c.negated.result = ap value_of c.in_ok-set.ensures.ok ∙ value_of-push_all c.loop-lit.trail.lits c.negated.result fresh in (
      c.loop-lit.invariant.0
          ∙ (ap (sweep p) (drop_read items c.loop-lit.lit-index l (omega arith) c.lit-item.is)
          ∙ (sweep_set p l c.negated.result (drop (c.loop-lit.lit-index + 1) items) t f c.negated.ensures.var c.negated.ensures.sign ∙ rw more refl)),
      c.in_ok-set.ensures.size ∙ c.loop-lit.invariant.1,
    )

pub returns-clause-tautology : goal.returns-clause-tautology
returns-clause-tautology c =
    let items : List Lit = c.slice-lit-items.result.now in
    let p : Partial = value_of c.loop-lit.trail.lits in
    let ends : sweep nothing items ≡ Some p = c.loop-lit.invariant.0 ∙ ap (sweep p) (drop_end items c.loop-lit.lit-index (omega arith)) in
    let is : is_tautology c.args.clause.now ≡ false = ap is_tautology (sym c.slice-lit-items.ensures) ∙ (swept_some items p ends).0 in
    rw is refl

pub returns-clause-values : goal.returns-clause-values
returns-clause-values c = λ _.
    let items : List Lit = c.slice-lit-items.result.now in
    let p : Partial = value_of c.loop-lit.trail.lits in
    let ends : sweep nothing items ≡ Some p = c.loop-lit.invariant.0 ∙ ap (sweep p) (drop_end items c.loop-lit.lit-index (omega arith)) in
    (swept_some items p ends).1 ∙ ap falsified c.slice-lit-items.ensures
