use Rattle.std.proofs.Common.{subst}
use Rattle.asm_node.specs.Model.{machine_of}
use Rattle.asm_node.specs.Term.{val}
use Rattle.asm_node.specs.Tree.{plain}
use Rattle.asm_eval.specs.Answer.{Answers}
use Rattle.asm_eval.specs.World.{world_in}
use Rattle.asm_fire.proofs.candidates.value_at.Goals as goal

pub returns : goal.returns
returns g c =
    subst (λ e. Answers (λ v. v) c.eval_in.result (val (world_in (machine_of c.args.world.now.model.now) (g.S.Store.state c.args.world.now.store.now) c.args.world.now.input.now) e (plain c.args.term.now.value))) c.in_ok-inner.ensures.places c.eval_in.ensures
