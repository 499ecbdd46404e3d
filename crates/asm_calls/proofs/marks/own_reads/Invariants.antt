use Rattle.std.proofs.Common.{◌≡◌, map, take}
use Rattle.asm_calls.specs.Graphs.{reads_at}
use Rattle.asm_calls.proofs.marks.own_reads.Given as goal

abbrev pub invariant-places : goal.invariant-places
invariant-places l = l.marks ≡ map (reads_at l.reading l.definitions) (take l.place-index l.places)
