use Rattle.asm_node.specs.Env.{places_of}
use Rattle.asm_node.specs.Model.{machine_of}
use Rattle.asm_node.specs.Tree.{plain_all}
use Rattle.asm_node.proofs.Closed.{places-closed}
use Rattle.asm_eval.specs.World.{world_in}
use Rattle.asm_eval.proofs.Worth.{exact_all-by}
use Rattle.asm_eval.proofs.terms.eval_all.Goals as goal

pub eval_terms-requires : goal.eval_terms-requires
eval_terms-requires g c =
    exact_all-by (world_in (machine_of c.args.world.now.model.now) (g.S.Store.state c.args.world.now.store.now) c.args.world.now.input.now) 32 (places_of c.args.env.now) (places-closed c.args.env.now.entries) (plain_all c.args.terms.now) c.requires
