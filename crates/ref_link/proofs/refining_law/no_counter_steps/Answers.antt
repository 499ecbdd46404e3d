use Rattle.ref_link.proofs.refining_law.no_counter_steps.Goals as goal

pub returns-clause-none : goal.returns-clause-none
returns-clause-none c = λ p each sa sc i next counter. counter.is_unanswered (each sa sc i next counter.is_allowed)

pub returns-clause-each : goal.returns-clause-each
returns-clause-each c = λ p none sa sc i next allowed unanswered. none sa sc i next (record { is_allowed = allowed; is_unanswered = unanswered })
