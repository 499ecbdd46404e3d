use Rattle.std.proofs.Common.{List, Bool, ap, ◌∙◌}
use Rattle.asm_faults.specs.First.{noted}
use Rattle.asm_calls.specs.declared.read.Reading.TheVariants.{Monitored}
use Rattle.asm_calls.specs.Graphs.{reading_marked}
use Rattle.asm_calls.proofs.read_pass.note_monitored.Goals as goal

pub returns : goal.returns
returns c = c.in_ok-note_reading.ensures ∙ ap (λ (row : List Bool). noted c.args.first.now (reading_marked Monitored row c.args.invariants.now)) (c.slice-held.ensures ∙ c.in_ok-row.ensures)
