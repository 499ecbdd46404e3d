use Rattle.std.proofs.Common.{◌≡◌, length, arith, ap, sym, ◌∙◌}
use Rattle.cnf_base.specs.Clauses.{clause_variables}
use Rattle.cnf_base.specs.Derivation.{is_all_false}
use Rattle.cnf_base.proofs.Sound.{some_same}
use Rattle.cnf_base.proofs.VariableBounds.{variables-there}
use Rattle.cnf_search.specs.Lines.{known}
use Rattle.cnf_search.specs.Trails.{values}
use Rattle.cnf_search.specs.Backs.{told}
use Rattle.cnf_search.proofs.Taught.{late_reasons, told_pass, taught}
use Rattle.cnf_search.proofs.Traces.{length_parts}
use Rattle.cnf_search.proofs.learn.learn.Goals as goal

pub look_back-requires-clause-new_room : goal.look_back-requires-clause-new_room
look_back-requires-clause-new_room c =
    omega (arith, variables-there (known c.args.checker.now) c.args.conflict c.in-Some.clause.now (sym c.in-Some.ensures), c.requires.room, c.size.ensures)

pub look_back-requires-clause-base : goal.look_back-requires-clause-base
look_back-requires-clause-base c = λ i h.
    let l = length_parts c.args.trace.now.entries in
    let paired : length c.reasons-reasons.result.now ≡ length c.lits.result.now = omega (arith, l.0, l.1, ap length c.lits.ensures.value, ap length c.reasons-reasons.ensures) in
    c.first_decision-base.ensures i (omega (arith, h, paired)) ∙ late_reasons c.lits.result.now c.reasons-reasons.result.now i paired

pub returns-clause-accepted : goal.returns-clause-accepted
returns-clause-accepted c =
    (let clause = c.in-Some.clause.now in
    let same : c.requires.conflict.clause ≡ clause = some_same c.requires.conflict.clause clause (sym c.requires.conflict.named ∙ sym c.in-Some.ensures) in
    taught (known c.args.checker.now) c.args.trace.now.entries c.args.conflict c.args.trace.now.size clause c.in_ok-in_order.field-0.line.clause c.in_ok-in_order.field-0.line.hints c.in_ok-in_order.field-0.found
    (told c.in_ok-learning.learning) c.requires.explained (sym c.in-Some.ensures) (ap (is_all_false (values c.args.trace.now.entries)) (sym same) ∙ c.requires.conflict.fails)
    (omega (arith, ap clause_variables c.lits.ensures.value, c.lits.ensures.within))
    (told_pass (known c.args.checker.now) c.args.trace.now.entries clause c.lits.result.now c.reasons-reasons.result.now (told c.in_ok-learning.learning) c.lits.ensures.value c.reasons-reasons.ensures c.in_ok-learning.ensures)
    c.in_ok-in_order.ensures.clause c.in_ok-in_order.ensures.hints c.in_ok-in_order.ensures.found).accepts

pub returns-clause-within : goal.returns-clause-within
returns-clause-within c =
    (let clause = c.in-Some.clause.now in
    let same : c.requires.conflict.clause ≡ clause = some_same c.requires.conflict.clause clause (sym c.requires.conflict.named ∙ sym c.in-Some.ensures) in
    taught (known c.args.checker.now) c.args.trace.now.entries c.args.conflict c.args.trace.now.size clause c.in_ok-in_order.field-0.line.clause c.in_ok-in_order.field-0.line.hints c.in_ok-in_order.field-0.found
    (told c.in_ok-learning.learning) c.requires.explained (sym c.in-Some.ensures) (ap (is_all_false (values c.args.trace.now.entries)) (sym same) ∙ c.requires.conflict.fails)
    (omega (arith, ap clause_variables c.lits.ensures.value, c.lits.ensures.within))
    (told_pass (known c.args.checker.now) c.args.trace.now.entries clause c.lits.result.now c.reasons-reasons.result.now (told c.in_ok-learning.learning) c.lits.ensures.value c.reasons-reasons.ensures c.in_ok-learning.ensures)
    c.in_ok-in_order.ensures.clause c.in_ok-in_order.ensures.hints c.in_ok-in_order.ensures.found).within

pub returns-clause-found : goal.returns-clause-found
returns-clause-found c =
    (let clause = c.in-Some.clause.now in
    let same : c.requires.conflict.clause ≡ clause = some_same c.requires.conflict.clause clause (sym c.requires.conflict.named ∙ sym c.in-Some.ensures) in
    taught (known c.args.checker.now) c.args.trace.now.entries c.args.conflict c.args.trace.now.size clause c.in_ok-in_order.field-0.line.clause c.in_ok-in_order.field-0.line.hints c.in_ok-in_order.field-0.found
    (told c.in_ok-learning.learning) c.requires.explained (sym c.in-Some.ensures) (ap (is_all_false (values c.args.trace.now.entries)) (sym same) ∙ c.requires.conflict.fails)
    (omega (arith, ap clause_variables c.lits.ensures.value, c.lits.ensures.within))
    (told_pass (known c.args.checker.now) c.args.trace.now.entries clause c.lits.result.now c.reasons-reasons.result.now (told c.in_ok-learning.learning) c.lits.ensures.value c.reasons-reasons.ensures c.in_ok-learning.ensures)
    c.in_ok-in_order.ensures.clause c.in_ok-in_order.ensures.hints c.in_ok-in_order.ensures.found).some

pub returns-clause-empty : goal.returns-clause-empty
returns-clause-empty c =
    (let clause = c.in-Some.clause.now in
    let same : c.requires.conflict.clause ≡ clause = some_same c.requires.conflict.clause clause (sym c.requires.conflict.named ∙ sym c.in-Some.ensures) in
    taught (known c.args.checker.now) c.args.trace.now.entries c.args.conflict c.args.trace.now.size clause c.in_ok-in_order.field-0.line.clause c.in_ok-in_order.field-0.line.hints c.in_ok-in_order.field-0.found
    (told c.in_ok-learning.learning) c.requires.explained (sym c.in-Some.ensures) (ap (is_all_false (values c.args.trace.now.entries)) (sym same) ∙ c.requires.conflict.fails)
    (omega (arith, ap clause_variables c.lits.ensures.value, c.lits.ensures.within))
    (told_pass (known c.args.checker.now) c.args.trace.now.entries clause c.lits.result.now c.reasons-reasons.result.now (told c.in_ok-learning.learning) c.lits.ensures.value c.reasons-reasons.ensures c.in_ok-learning.ensures)
    c.in_ok-in_order.ensures.clause c.in_ok-in_order.ensures.hints c.in_ok-in_order.ensures.found).none
