use Rattle.std.proofs.Common.{◌≡◌, List, drop}
use Rattle.std.specs.List.{flat_map}
use Rattle.avalla_prepare.specs.Parts.{AreSizes, latest}
use Rattle.avalla_prepare.specs.Scenario.{Block, first_of, missing_in}
use Rattle.avalla_prepare.proofs.surveying.missing_in_all.Given as goal

-- no block is missing so far
abbrev pub invariant-commands : goal.invariant-commands
invariant-commands l = (blocks : List Block) → AreSizes blocks (latest l.ended) → first_of (flat_map (missing_in blocks) (drop l.command-index l.commands)) ≡ first_of (flat_map (missing_in blocks) l.commands)
