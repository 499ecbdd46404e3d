use Rattle.std.proofs.Common.{◌≡◌, ◌+◌, ◌≤◌, List, length, drop}
use Rattle.avalla_prepare.specs.Parts.{AreSizes, latest}
use Rattle.avalla_prepare.specs.Scenario.{Block, all_unfolded, most_commands}
use Rattle.avalla_prepare.proofs.surveying.met_by_all.Given as goal

-- the commands met so far, and those that are left
abbrev pub invariant-commands : goal.invariant-commands
invariant-commands l = record {
  count : (blocks : List Block) → AreSizes blocks (latest l.ended) → l.met + length (all_unfolded blocks (drop l.command-index l.commands)) ≡ l.fn.met + length (all_unfolded blocks l.commands);
  few : l.met ≤ most_commands;
}
