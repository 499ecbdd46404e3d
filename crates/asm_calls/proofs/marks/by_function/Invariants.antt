use Rattle.std.proofs.Common.{◌≡◌, map, take}
use Rattle.asm_faults.specs.Terms.{function_place}
use Rattle.asm_calls.specs.declared.caller.Caller.{Caller}
use Rattle.asm_calls.specs.Graphs.{in_row}
use Rattle.asm_calls.proofs.marks.by_function.Given as goal

abbrev pub invariant-definitions : goal.invariant-definitions
invariant-definitions l = l.marks ≡ map (λ (c : Caller). in_row l.row (function_place l.known c.name)) (take l.definition-index l.definitions)
