use Rattle.std.proofs.Common.{◌∙◌}
use Rattle.asm_fire.proofs.Joining.{union-empty, next-added}
use Rattle.asm_fire.proofs.join.add_each.Goals as goal

pub loop-pair-init : goal.loop-pair-init
loop-pair-init c = union-empty c.args.all.now

pub loop-pair-preserved : goal.loop-pair-preserved
loop-pair-preserved c =
    c.in_ok-add.ensures.ok ∙ next-added c.args.all.now c.loop-pair.all c.pairs-pair-items.result.now c.loop-pair.pair-index _ c.loop-pair-test.true c.loop-pair.invariant
