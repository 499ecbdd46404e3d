use Rattle.std.proofs.Common.{◌≡◌, ◌++◌}
use Rattle.asm_gen.specs.Ring.{cases_text}
use Rattle.asm_gen.proofs.concrete_model.append_cases.Given as goal

abbrev pub invariant-stations : goal.invariant-stations
invariant-stations l = l.text ≡ l.fn.text ++ cases_text l.station
