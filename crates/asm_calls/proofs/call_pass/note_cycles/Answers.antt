use Rattle.std.proofs.Common.{length, ap, ◌∙◌, arith}
use Rattle.asm_faults.specs.First.{noted}
use Rattle.asm_calls.specs.Graphs.{are_some}
use Rattle.asm_calls.proofs.Calling.{cycle_rows}
use Rattle.asm_calls.proofs.call_pass.note_cycles.Goals as goal

pub returns-clause-faults : goal.returns-clause-faults
returns-clause-faults c =
    λ far le. c.in_ok-found.ensures.faults
    ∙ ap (noted c.args.first.now) (cycle_rows c.args.known.now far c.args.definitions.now c.args.reading.now c.args.rules.now c.args.calling.now c.slice.result.now c.slice-2.result.now (c.slice.ensures ∙ c.in_ok-row.ensures far le) (c.slice-2.ensures ∙ c.in_ok-other.ensures (length c.args.calling.now) (omega arith)))

pub returns-clause-found : goal.returns-clause-found
returns-clause-found c =
    λ far le. c.in_ok-found.ensures.found
    ∙ ap are_some (cycle_rows c.args.known.now far c.args.definitions.now c.args.reading.now c.args.rules.now c.args.calling.now c.slice.result.now c.slice-2.result.now (c.slice.ensures ∙ c.in_ok-row.ensures far le) (c.slice-2.ensures ∙ c.in_ok-other.ensures (length c.args.calling.now) (omega arith)))
