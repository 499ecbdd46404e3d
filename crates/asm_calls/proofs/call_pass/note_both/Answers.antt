use Rattle.std.proofs.Common.{◌∙◌}
use Rattle.asm_calls.proofs.Calling.{both_faults, both_found}
use Rattle.asm_calls.proofs.call_pass.note_both.Goals as goal

pub returns-clause-faults : goal.returns-clause-faults
returns-clause-faults c =
    both_faults c.args.known.now c.args.kind c.args.definitions.now c.args.row.now c.args.rules.now c.args.other.now c.slice.result.now (c.slice.ensures ∙ c.in_ok-marks.ensures) _ _ _ c.in_ok-some.ensures.faults c.in_ok-more.ensures.faults

pub returns-clause-found : goal.returns-clause-found
returns-clause-found c =
    both_found c.args.known.now c.args.kind c.args.definitions.now c.args.row.now c.args.rules.now c.args.other.now c.slice.result.now (c.slice.ensures ∙ c.in_ok-marks.ensures) c.in_ok-some.some c.in_ok-more.more _ c.in_ok-some.ensures.found c.in_ok-more.ensures.found c.either.ensures
