use Rattle.std.proofs.Common.{◌≡◌, ◌++◌, drop}
use Rattle.std.specs.List.{flat_map}
use Rattle.asm_calls.specs.Callers.{callers_in, of_unit}
use Rattle.asm_calls.proofs.gather.add_unit.Given as goal

abbrev pub invariant-definitions : goal.invariant-definitions
invariant-definitions l =
    l.callers ++ flat_map (callers_in l.part l.known l.names) (of_unit l.number (drop l.definition-index l.definitions)) ≡ l.initial.callers ++ flat_map (callers_in l.part l.known l.names) (of_unit l.number l.definitions)
