use Rattle.std.proofs.Common.{◌∙◌, ◌+◌, ◌++◌, drop, take, refl, sym, ap}
use Rattle.std.specs.List.{flat_map}
use Rattle.avalla_command.specs.Acts.{acts_of}
use Rattle.avalla_prepare.specs.Parts.{latest}
use Rattle.avalla_prepare.specs.Prepared.{command_faults}
use Rattle.avalla_prepare.specs.Scenario.{all_unfolded, unfolded}
use Rattle.avalla_prepare.proofs.Growing.{grows_both, grows_none, grows_same, placed_grown}
use Rattle.avalla_prepare.proofs.Walking.{flat_rest, flat_taken}
use Rattle.avalla_prepare.proofs.unfolding.unfold_all.Goals as goal

pub commands-init : goal.commands-init
commands-init c = record {
  faults = refl;
  grows = λ blocks placed. grows_none c.args.over.now.script c.args.over.now.file (acts_of c.args.order.now);
}

pub commands-preserved : goal.commands-preserved
commands-preserved c =
    let m = c.args.over.now.script in
    let file = c.args.over.now.file in
    let cs = c.args.commands.now in
    let i = c.commands.command-index in
    let before = acts_of c.args.order.now in
    let acts = acts_of c.commands.order in
    let now = acts_of c.unfold.new.order in
    record {
      faults =
          sym (flat_rest cs i c.command-item.result c.commands-test.true c.command-item.is (command_faults m file)
          ∙ ap (λ xs. xs ++ flat_map (command_faults m file) (drop (i + 1) cs)) c.in_ok-unfold.ensures.faultless)
          ∙ c.commands.invariant.faults;
      grows = λ blocks placed.
          let grown = c.commands.invariant.grows blocks placed in
          grows_same m file _ (all_unfolded blocks (take (i + 1) cs)) before now (sym (flat_taken cs i c.command-item.result c.commands-test.true c.command-item.is (unfolded blocks)))
          (grows_both m file (all_unfolded blocks (take i cs)) (unfolded blocks c.command-item.result) before acts now grown
          (c.in_ok-unfold.ensures.grows blocks (placed_grown m file before acts (all_unfolded blocks (take i cs)) blocks (latest c.args.ended.now) grown placed)));
    }
