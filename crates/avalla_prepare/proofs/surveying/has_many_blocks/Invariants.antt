use Rattle.std.proofs.Common.{◌≡◌, ◌+◌, ◌≤◌, length, drop}
use Rattle.std.specs.List.{flat_map}
use Rattle.avalla_prepare.specs.Scenario.{block_in, most_blocks}
use Rattle.avalla_prepare.proofs.surveying.has_many_blocks.Given as goal

-- the blocks so far, and those that are left
abbrev pub invariant-commands : goal.invariant-commands
invariant-commands l = record {
  count : l.blocks + length (flat_map block_in (drop l.command-index l.commands)) ≡ length (flat_map block_in l.commands);
  few : l.blocks ≤ most_blocks;
}
