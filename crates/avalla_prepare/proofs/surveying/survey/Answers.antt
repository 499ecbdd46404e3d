use Rattle.std.proofs.Common.{◌≤◌, sym, subst, arith}
use Rattle.std.specs.Option.{option_copied}
use Rattle.avalla_prepare.specs.Parts.{AreSizes, latest}
use Rattle.avalla_prepare.specs.Scenario.{most_commands}
use Rattle.avalla_prepare.proofs.Counting.{survey_goes}
use Rattle.avalla_prepare.proofs.surveying.survey.Goals as goal

pub commands-preserved : goal.commands-preserved
commands-preserved c =
    let s = c.commands.invariant in
    let counts = c.in-Some.ensures s.blocks (subst (λ t. AreSizes s.blocks (latest t)) (sym c.slice.ensures) s.sizes) in
    let few : c.in-Some.to ≤ most_commands = omega (arith, counts) in
    survey_goes c.args.commands.now c.commands.command-index c.command-item.result c.commands-test.true c.command-item.is
    (latest c.commands.ended) c.commands.met (option_copied c.commands.missing) s
    c.in-Some.to (latest c.end_block.new.ended) (option_copied c.or_missing_by-missing.result) counts.0 few c.in_ok-end_block.ensures
    (c.or_missing_by-missing.ensures s.blocks (subst (λ t. AreSizes s.blocks (latest t)) (sym c.slice-in-commands.ensures) s.sizes))
