use Rattle.std.proofs.Common.{[], length, ap, arith}
use Rattle.std.proofs.lemmas.List.{length-map}
use Rattle.std.proofs.lemmas.List.Elements.{All-nil, All-same}
use Rattle.asm_node.specs.Model.{machine_of}
use Rattle.avalla_command.specs.Acts.{IsAct, act_of, acts_of}
use Rattle.avalla_prepare.specs.Scenario.{met_after}
use Rattle.avalla_prepare.proofs.Growing.{as_many}
use Rattle.avalla_prepare.proofs.preparing.prepare.Goals as goal

pub returns-in_ok-unfolded-in-None-clause-sound : goal.returns-in_ok-unfolded-in-None-clause-sound
returns-in_ok-unfolded-in-None-clause-sound c =
    let m = machine_of c.args.model.now in
    let grown = c.in_ok-unfolded-in-None.ensures.grows in
    All-same (IsAct m) (acts_of c.in_ok-unfolded-in-None.field-0) grown.more grown.acts_are (grown.sound (All-nil (IsAct m)))

pub returns-in_ok-unfolded-in-None-clause-few : goal.returns-in_ok-unfolded-in-None-clause-few
returns-in_ok-unfolded-in-None-clause-few c =
    let grown = c.in_ok-unfolded-in-None.ensures.grows in
    omega (arith, length-map c.in_ok-unfolded-in-None.field-0 (λ r. act_of r.value), ap length grown.acts_are, as_many (machine_of c.args.model.now) c.args.file (met_after [] c.slice-commands.result.now) grown.more grown.are, c.in_ok-name.ensures.few)
