use Rattle.std.proofs.Common.{◌≡◌, map, take}
use Rattle.asm_calls.specs.declared.caller.Caller.{Caller}
use Rattle.asm_calls.proofs.caller.names_of.Given as goal

abbrev pub invariant-callers : goal.invariant-callers
invariant-callers l = l.table ≡ map (λ (c : Caller). c.name) (take l.caller-index l.callers)
