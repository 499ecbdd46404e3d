use Rattle.std.proofs.Common.{◌≡◌, ◌++◌}
use Rattle.asm_gen.specs.Ring.{ends_text}
use Rattle.asm_gen.proofs.concrete_model.append_ends.Given as goal

abbrev pub invariant-stations : goal.invariant-stations
invariant-stations l = l.text ≡ l.fn.text ++ ends_text l._station
