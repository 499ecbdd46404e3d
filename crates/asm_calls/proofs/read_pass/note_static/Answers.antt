use Rattle.std.proofs.Common.{List, Bool, ap, ◌∙◌}
use Rattle.asm_faults.specs.First.{noted}
use Rattle.asm_faults.specs.declared.fault.ModelFault.TheVariants.{ForbiddenRead}
use Rattle.asm_calls.specs.Graphs.{marked_faults}
use Rattle.asm_calls.proofs.read_pass.note_static.Goals as goal

pub returns : goal.returns
returns c = c.in_ok-note_marked.ensures.faults ∙ ap (λ (marks : List Bool). noted c.args.first.now (marked_faults ForbiddenRead marks 0 c.args.definitions.now)) (c.slice.ensures ∙ c.in_ok-marks.ensures)
