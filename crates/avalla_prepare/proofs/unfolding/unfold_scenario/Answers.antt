use Rattle.std.proofs.Common.{◌≡◌, ◌∙◌, length, sym, ap, subst}
use Rattle.std.proofs.lemmas.List.{length-map}
use Rattle.avalla_command.specs.Acts.{act_of, acts_of}
use Rattle.avalla_prepare.specs.Parts.{ArePlaced, latest, latest_by}
use Rattle.avalla_prepare.proofs.Growing.{unfold_goes, unfolds_none}
use Rattle.avalla_prepare.proofs.unfolding.unfold_scenario.Goals as goal

pub commands-init : goal.commands-init
commands-init c = unfolds_none c.args.over.now.script c.args.over.now.file c.args.commands.now (latest c.new-ended.result) (acts_of c.args.order.now) (λ name. ap (λ t. latest t name) c.new-ended.ensures)

pub commands-preserved : goal.commands-preserved
commands-preserved c =
    let m = c.args.over.now.script in
    let file = c.args.over.now.file in
    let u = c.commands.invariant in
    let command = c.command-item.result in
    let acts = acts_of c.commands.order in
    let now = acts_of c.unfold_command.new.order in
    let from : c.len-from.result ≡ length acts = c.len-from.ensures ∙ sym (length-map c.commands.order (λ r. act_of r.value)) in
    let to : c.len-to.result ≡ length now = c.len-to.ensures ∙ sym (length-map c.unfold_command.new.order (λ r. act_of r.value)) in
    unfold_goes m file c.args.commands.now c.commands.command-index command c.commands-test.true c.command-item.is
    (latest c.commands.ended) (acts_of c.args.order.now) acts u (latest c.end_block.new.ended) now
    c.in_ok-unfold_command.ensures.faultless
    (c.in_ok-unfold_command.ensures.grows u.blocks (subst (λ t. ArePlaced m file acts u.blocks (latest t)) (sym c.slice.ensures) u.placed))
    (λ name. c.in_ok-end_block.ensures name
    ∙ ap (λ n. latest_by command (n, c.len-to.result) name (latest c.commands.ended name)) from
    ∙ ap (λ n. latest_by command (length acts, n) name (latest c.commands.ended name)) to)
