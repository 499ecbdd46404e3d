use Rattle.std.proofs.Common.{List, Bool, ◌++◌, ap, ◌∙◌}
use Rattle.asm_faults.specs.First.{noted}
use Rattle.asm_calls.specs.declared.read.Reading.TheVariants.{Dynamic}
use Rattle.asm_calls.specs.Graphs.{static_marked, reading_marked}
use Rattle.asm_calls.proofs.Calling.{both_noted}
use Rattle.asm_calls.proofs.read_pass.note_dynamic.Goals as goal

pub returns : goal.returns
returns c =
    both_noted _ _ _ (static_marked c.args.known.now Dynamic c.slice-held.result.now c.args.definitions.now) (reading_marked Dynamic c.slice-held.result.now c.args.initials.now) c.in_ok-note_static.ensures c.in_ok-note_reading.ensures
    ∙ ap (λ (row : List Bool). noted c.args.first.now (static_marked c.args.known.now Dynamic row c.args.definitions.now ++ reading_marked Dynamic row c.args.initials.now)) (c.slice-held.ensures ∙ c.in_ok-row.ensures)
