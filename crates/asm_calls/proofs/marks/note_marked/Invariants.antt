use Rattle.std.proofs.Common.{◌≡◌, ◌||◌, drop}
use Rattle.asm_faults.specs.First.{noted}
use Rattle.asm_calls.specs.Graphs.{marked_faults, are_some}
use Rattle.asm_calls.proofs.marks.note_marked.Given as goal

abbrev pub invariant-callers : goal.invariant-callers
invariant-callers l = record {
  noted_is : noted l.first (marked_faults l.kind l.marks l.index (drop l.index l.callers)) ≡ noted l.initial.first (marked_faults l.kind l.marks 0 l.callers);
  found_is : (l.found || are_some (marked_faults l.kind l.marks l.index (drop l.index l.callers))) ≡ are_some (marked_faults l.kind l.marks 0 l.callers);
}
