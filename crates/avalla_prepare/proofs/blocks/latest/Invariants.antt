use Rattle.std.proofs.Common.{◌≡◌, drop}
use Rattle.std.specs.Prelude.{fold}
use Rattle.avalla_prepare.specs.Parts.{later, latest}
use Rattle.avalla_prepare.proofs.blocks.latest.Given as goal

-- what was found so far, and the blocks that are left, give the latest one
abbrev pub invariant-names : goal.invariant-names
invariant-names l = fold (later l.name) l.found (drop l.block-index l.ended) ≡ latest l.ended l.name
