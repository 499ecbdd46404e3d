use Rattle.std.proofs.Common.{List, ap, ◌∙◌}
use Rattle.asm_tree.specs.declared.unit.LoadedUnit.{LoadedUnit}
use Rattle.asm_faults.specs.First.{noted}
use Rattle.asm_faults.specs.Calls.{call_faults}
use Rattle.asm_calls.proofs.Calling.{calls_noted}
use Rattle.asm_calls.proofs.call_pass.calls.Goals as goal

pub returns : goal.returns
returns c =
    calls_noted c.args.known.now c.slice-files.result.now c.args.first.now _ c.slice-readers.result.now c.slice-callers.result.now c.in_ok-places.places c.slice.result.now c.in_ok-reading.reading c.in_ok-calling.calling
    (c.slice-readers.ensures ∙ c.in_ok-definitions.ensures) (c.slice-callers.ensures ∙ c.in_ok-rules.ensures) c.in_ok-places.ensures c.slice.ensures c.in_ok-reading.ensures c.in_ok-calling.ensures c.in_ok-note_calls.ensures
    ∙ ap (λ (us : List LoadedUnit). noted c.args.first.now (call_faults c.args.known.now us)) c.slice-files.ensures
