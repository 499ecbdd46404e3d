use Rattle.std.proofs.Common.{ap, ◌∙◌}
use Rattle.asm_faults.specs.First.{noted}
use Rattle.asm_calls.proofs.Calling.{chain_rows}
use Rattle.asm_calls.proofs.call_pass.note_chains.Goals as goal

pub returns : goal.returns
returns c =
    c.in_ok-note_both.ensures.faults
    ∙ ap (noted c.args.first.now) (chain_rows c.args.known.now c.args.definitions.now c.args.reading.now c.args.rules.now c.args.calling.now c.slice.result.now c.slice-2.result.now (c.slice.ensures ∙ c.in_ok-row.ensures) (c.slice-2.ensures ∙ c.in_ok-other.ensures))
