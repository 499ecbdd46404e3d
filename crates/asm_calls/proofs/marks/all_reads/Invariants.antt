use Rattle.std.proofs.Common.{◌≡◌, map, take}
use Rattle.asm_calls.specs.Graphs.{reads_by}
use Rattle.asm_calls.proofs.marks.all_reads.Given as goal

abbrev pub invariant-callers : goal.invariant-callers
invariant-callers l = l.marks ≡ map (reads_by l.reading l.row) (take l.caller-index l.callers)
