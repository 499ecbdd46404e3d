use Rattle.std.proofs.Common.{sym, subst}
use Rattle.avalla_command.specs.Acts.{acts_of}
use Rattle.avalla_prepare.specs.Parts.{Grows, IsPlaced}
use Rattle.avalla_prepare.specs.Scenario.{block_named, unfolded}
use Rattle.avalla_prepare.proofs.Growing.{grows_missing}
use Rattle.avalla_prepare.proofs.unfolding.unfold.Goals as goal

pub returns-in-None-clause-grows : goal.returns-in-None-clause-grows
returns-in-None-clause-grows c blocks placed =
    let m = c.args.over.now.script in
    let file = c.args.over.now.file in
    let acts = acts_of c.args.order.now in
    let name = c.in-ExecBlock.name.text in
    subst (λ command. Grows m file (unfolded blocks command) acts acts) (sym c.in-ExecBlock.is)
    (grows_missing m file (block_named blocks name) acts
    (subst (λ o. IsPlaced m file acts o (block_named blocks name)) (sym c.in-None.ensures) (placed.placed name)))
