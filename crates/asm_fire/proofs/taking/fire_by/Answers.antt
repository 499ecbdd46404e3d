use Rattle.std.proofs.Common.{subst}
use Rattle.asm_node.specs.Model.{machine_of}
use Rattle.asm_node.specs.RuleTree.{plain_rule}
use Rattle.asm_node.specs.Taking.{taken, bodies_within}
use Rattle.asm_eval.specs.World.{world_in}
use Rattle.asm_fire.specs.Chooser.{FiresBy}
use Rattle.asm_fire.proofs.taking.fire_by.Goals as goal

pub returns-clause-fires : goal.returns-clause-fires
returns-clause-fires g c =
    subst (λ e. FiresBy (g.C.Chooser.ways c.args.chooser.now) c.fire_rule.result (g.C.Chooser.words c.fire_rule.new.chooser) (λ pick path. taken pick (bodies_within pick 32) path (world_in (machine_of c.args.model.now) (g.S.Store.state c.args.store.now) c.args.input.now) e (plain_rule c.args.rule.now.value) (g.C.Chooser.words c.args.chooser.now)))
    c.new-env.ensures.places c.fire_rule.ensures.fires
