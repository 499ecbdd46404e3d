use Rattle.std.proofs.Common.{◌≡◌, List, take, drop}
use Rattle.std.specs.List.{flat_map}
use Rattle.avalla_command.specs.Acts.{acts_of}
use Rattle.avalla_prepare.specs.Parts.{ArePlaced, Grows, latest}
use Rattle.avalla_prepare.specs.Prepared.{command_faults}
use Rattle.avalla_prepare.specs.Scenario.{Block, all_unfolded}
use Rattle.avalla_prepare.proofs.unfolding.unfold_all.Given as goal

-- nothing is wrong so far, and what the commands so far come to was added
abbrev pub invariant-commands : goal.invariant-commands
invariant-commands l = record {
  faults : flat_map (command_faults l.over.script l.over.file) (drop l.command-index l.commands) ≡ flat_map (command_faults l.over.script l.over.file) l.commands;
  grows : (blocks : List Block) → ArePlaced l.over.script l.over.file (acts_of l.fn.order) blocks (latest l.ended) → Grows l.over.script l.over.file (all_unfolded blocks (take l.command-index l.commands)) (acts_of l.fn.order) (acts_of l.order);
}
