use Rattle.std.proofs.Common.{◌++◌, ◌∷◌, [], arith, ap, ◌∙◌, List}
use Rattle.cnf_base.specs.declared.lit.Lit.{Lit}
use Rattle.cnf_gate.proofs.Climbs.{Climbs-first, Climbs-rung, Climbs-group}
use Rattle.cnf_gate.proofs.ladder.group_clauses.Goals as goal

pub loop-i-init : goal.loop-i-init
loop-i-init c =
    Climbs-first c.new-clauses.result.items c.args.first c.push.new.self c.new-some.result c.new-clauses.ensures.items c.new-some.ensures.var c.new-some.ensures.sign
    (c.in_ok-push.ensures.ok ∙ ap (λ (z : List Lit). z ++ c.new-some.result ∷ []) c.new-lits.ensures)

pub loop-i-preserved : goal.loop-i-preserved
loop-i-preserved c =
    Climbs-rung c.loop-i.clauses.items c.push_rung.new.clauses.items c.args.first c.loop-i.i c.loop-i.lits c.push-in-loop-i.new.self
    c.loop-i.some c.new-next.result c.new-output.result c.negated-some.result c.loop-i.invariant (omega arith)
    c.new-next.ensures.var c.new-next.ensures.sign c.new-output.ensures.var c.in_ok-push_rung.ensures c.in_ok-push-2.ensures.ok c.negated-some.ensures.value

pub returns : goal.returns
returns c =
    Climbs-group c.loop-i.clauses.items c.push_clause.new.clauses.items c.args.first c.loop-i.i c.args.size c.loop-i.lits c.in_ok-from_slice.field-0
    c.loop-i.some c.loop-i.invariant (omega arith) c.requires.some (c.in_ok-from_slice.ensures ∙ c.slice.ensures) c.in_ok-push_clause.ensures
