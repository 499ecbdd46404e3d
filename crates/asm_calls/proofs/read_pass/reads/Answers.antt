use Rattle.std.proofs.Common.{List, ap, ◌∙◌}
use Rattle.asm_tree.specs.declared.unit.LoadedUnit.{LoadedUnit}
use Rattle.asm_faults.specs.First.{noted}
use Rattle.asm_faults.specs.Calls.{read_faults}
use Rattle.asm_calls.proofs.Reading.{reads_noted}
use Rattle.asm_calls.proofs.read_pass.reads.Goals as goal

pub returns : goal.returns
returns c =
    reads_noted c.args.known.now c.slice-files.result.now c.args.first.now _ _ c.in_ok-places.places c.slice-placed.result.now c.in_ok-graph.graph c.slice-readers.result.now c.slice.result.now c.slice-2.result.now
    (c.slice-readers.ensures ∙ c.in_ok-definitions.ensures) (c.slice.ensures ∙ c.in_ok-initials.ensures) (c.slice-2.ensures ∙ c.in_ok-invariants.ensures) c.in_ok-places.ensures c.slice-placed.ensures c.in_ok-graph.ensures
    c.in_ok-note_dynamic.ensures c.in_ok-note_monitored.ensures
    ∙ ap (λ (us : List LoadedUnit). noted c.args.first.now (read_faults c.args.known.now us)) c.slice-files.ensures
