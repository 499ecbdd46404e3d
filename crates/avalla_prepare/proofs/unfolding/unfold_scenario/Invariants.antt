use Rattle.avalla_command.specs.Acts.{acts_of}
use Rattle.avalla_prepare.specs.Parts.{latest}
use Rattle.avalla_prepare.proofs.Growing.{Unfolds}
use Rattle.avalla_prepare.proofs.unfolding.unfold_scenario.Given as goal

abbrev pub invariant-commands : goal.invariant-commands
invariant-commands l = Unfolds l.over.script l.over.file l.commands l.command-index (latest l.ended) (acts_of l.fn.order) (acts_of l.order)
