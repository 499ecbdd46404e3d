use Rattle.std.proofs.Common.{◌≡◌, Bool, true, false, not, refl, sym, ◌∙◌, arith}
use Rattle.cnf_base.specs.Clauses.{is_same}
use Rattle.cnf_check.proofs.Scan.{lone_at_true, lone_at_other, lone_at_end}
use Rattle.cnf_check.proofs.lookup.lone_literal.Goals as goal

not_true : (b : Bool) → not b ≡ true → b ≡ false
not_true true h = sym h
not_true false h = refl

pub returns-then-is_true : goal.returns-then-is_true
returns-then-is_true c =
    lone_at_true _ _ _ _ _ _ c.slice-lit-items.ensures (omega arith) c.lit-item.is
    (sym c.is_false.ensures ∙ c.if-is_false.false) (sym c.is_true.ensures ∙ c.if-is_true.true) c.loop-lit.invariant

pub returns-then-ne : goal.returns-then-ne
returns-then-ne c =
    let other : is_same c.in-Some.other c.lit-item.result ≡ false =
    not_true (is_same c.in-Some.other c.lit-item.result) (sym c.ne.ensures ∙ c.if-ne.true) in
    lone_at_other _ c.in-Some.other _ _ _ _ c.slice-lit-items.ensures (omega arith) c.lit-item.is
    (sym c.is_false.ensures ∙ c.if-is_false.false) (sym c.is_true.ensures ∙ c.if-is_true.false) other
    (cc)

pub returns : goal.returns
returns c = lone_at_end _ _ _ _ _ c.slice-lit-items.ensures (omega arith) c.loop-lit.invariant
