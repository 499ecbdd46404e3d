use Rattle.std.proofs.Common.{◌≡◌, take}
use Rattle.asm_faults.specs.First.{noted}
use Rattle.asm_typing.specs.BodyPieces.{undefined_at, over_declarations}
use Rattle.asm_typing.proofs.missing_pass.undefined.Given as goal

abbrev pub invariant-units : goal.invariant-units
invariant-units l = l.first ≡ noted l.initial.first (over_declarations (undefined_at l.known.domains l.defined) (take l.number l.units))
