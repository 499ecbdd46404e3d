use Rattle.std.proofs.Common.{◌≡◌, ◌&&◌, map, take}
use Rattle.asm_faults.specs.Terms.{function_named}
use Rattle.asm_calls.specs.declared.caller.Caller.{Caller}
use Rattle.asm_calls.specs.Graphs.{reads_by}
use Rattle.asm_calls.specs.Reads.{is_static}
use Rattle.asm_calls.proofs.marks.static_reads.Given as goal

abbrev pub invariant-definitions : goal.invariant-definitions
invariant-definitions l = l.marks ≡ map (λ (c : Caller). is_static (function_named l.known c.name) && reads_by l.reading l.row c) (take l.definition-index l.definitions)
