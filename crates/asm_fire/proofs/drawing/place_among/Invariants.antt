use Rattle.std.proofs.Common.{◌≡◌, drop}
use Rattle.asm_fire.specs.Drawing.{place_among}
use Rattle.asm_fire.proofs.Placing.{moved}
use Rattle.asm_fire.proofs.drawing.place_among.Given as goal

abbrev pub invariant-loop-place : goal.invariant-loop-place
invariant-loop-place l = place_among l.tuple l.found ≡ moved l.place (place_among l.tuple (drop l.place l.found))
