use Rattle.std.proofs.Common.{sym, ap, subst}
use Rattle.std.proofs.lemmas.Result.{err_from_is_err_and}
use Rattle.asm_node.specs.Env.{places_of}
use Rattle.asm_node.specs.Model.{machine_of}
use Rattle.asm_node.specs.Taking.{evaluated}
use Rattle.asm_node.specs.Term.{val}
use Rattle.asm_node.specs.Tree.{plain}
use Rattle.asm_eval.specs.World.{world_in}
use Rattle.asm_fire.specs.Answer.{Fires}
use Rattle.asm_fire.specs.Guard.{truth_of}
use Rattle.asm_fire.proofs.Firing.{halts-evaluated}
use Rattle.asm_fire.proofs.candidates.guard_of.Goals as goal

pub returns-in_err-value : goal.returns-in_err-value
returns-in_err-value g c = λ words.
    let p = err_from_is_err_and c.from_residual.result c.from_residual.ensures.1 in
    rw (p.1, p.2) (halts-evaluated c.in_err-value.field-0.0 words (val (world_in (machine_of c.args.world.now.model.now) (g.S.Store.state c.args.world.now.store.now) c.args.world.now.input.now) (places_of c.args.env.now) (plain c.args.guard.now.value)) (λ v. truth_of c.args.place v words) c.in_err-value.ensures)

pub returns : goal.returns
returns g c = λ words.
    subst (Fires c.truth_of.result words) (sym (ap (λ o. evaluated o words (λ v. truth_of c.args.place v words)) c.in_ok-value.ensures)) (c.truth_of.ensures words)
