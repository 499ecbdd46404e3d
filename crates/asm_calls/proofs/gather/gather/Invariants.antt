use Rattle.std.proofs.Common.{◌≡◌, ◌++◌, drop}
use Rattle.std.specs.List.{flat_map}
use Rattle.asm_calls.specs.Callers.{callers_in, definitions_from}
use Rattle.asm_calls.proofs.gather.gather.Given as goal

abbrev pub invariant-units : goal.invariant-units
invariant-units l = l.callers ++ flat_map (callers_in l.part l.known l.names) (definitions_from l.number (drop l.number l.units)) ≡ flat_map (callers_in l.part l.known l.names) (definitions_from 0 l.units)
