use Rattle.std.specs.Option.{option_copied}
use Rattle.avalla_prepare.specs.Parts.{latest}
use Rattle.avalla_prepare.proofs.Counting.{Surveys}
use Rattle.avalla_prepare.proofs.surveying.survey.Given as goal

abbrev pub invariant-commands : goal.invariant-commands
invariant-commands l = Surveys l.commands l.command-index (latest l.ended) l.met (option_copied l.missing)
