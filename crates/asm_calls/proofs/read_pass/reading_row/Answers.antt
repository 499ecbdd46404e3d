use Rattle.std.proofs.Common.{List, Bool, ap, ◌∙◌}
use Rattle.call_graph.specs.Calls.{touches}
use Rattle.call_graph.specs.Rows.{for_each}
use Rattle.asm_calls.proofs.read_pass.reading_row.Goals as goal

pub returns : goal.returns
returns c = c.in_ok-row.ensures ∙ ap (λ (marks : List Bool). for_each c.args.graph.now (touches c.args.graph.now marks 31)) (c.slice.ensures ∙ c.in_ok-marks.ensures)
