use Rattle.asm_node.specs.Env.{places_of}
use Rattle.asm_node.specs.Model.{machine_of}
use Rattle.asm_node.specs.Tree.{plain}
use Rattle.asm_node.proofs.Closed.{places-closed}
use Rattle.asm_eval.specs.World.{world_in}
use Rattle.asm_eval.proofs.Worth.{exact-by}
use Rattle.asm_eval.proofs.terms.eval_in.Goals as goal

pub eval_term-requires : goal.eval_term-requires
eval_term-requires g c =
    exact-by (world_in (machine_of c.args.world.now.model.now) (g.S.Store.state c.args.world.now.store.now) c.args.world.now.input.now) 32 (places_of c.args.env.now) (places-closed c.args.env.now.entries) (plain c.args.term.now.value) c.requires
