use Rattle.std.proofs.Common.{subst, sym, ap, ◌∙◌}
use Rattle.asm_node.specs.Model.{machine_of}
use Rattle.asm_node.specs.Term.{value_of, calls_of}
use Rattle.asm_node.specs.Tree.{plain}
use Rattle.asm_eval.specs.Answer.{Answers}
use Rattle.asm_eval.specs.World.{world_in, value_by, IsExactBy, parameters_at}
use Rattle.asm_eval.proofs.Worth.{exact-parameters, reads-parameters}
use Rattle.asm_eval.proofs.terms.eval_body.Goals as goal

pub eval_term-requires : goal.eval_term-requires
eval_term-requires g c =
    let w = world_in (machine_of c.args.world.now.model.now) (g.S.Store.state c.args.world.now.store.now) c.args.world.now.input.now in
    subst (λ e. IsExactBy w 32 e (plain c.args.definition.now.term.value)) (sym (c.in_ok-env.ensures.places ∙ ap (λ xs. parameters_at xs c.args.values.now) c.slice.ensures))
    (exact-parameters w 32 c.args.definition.now.variables c.args.values.now (plain c.args.definition.now.term.value) c.requires)

pub returns : goal.returns
returns g c =
    let w = world_in (machine_of c.args.world.now.model.now) (g.S.Store.state c.args.world.now.store.now) c.args.world.now.input.now in
    subst (λ o. Answers (λ v. v) c.eval_term.result o)
    (ap (λ e. value_by w 32 e (plain c.args.definition.now.term.value)) (c.in_ok-env.ensures.places ∙ ap (λ xs. parameters_at xs c.args.values.now) c.slice.ensures)
    ∙ ap (λ r. value_of w (calls_of w) r (plain c.args.definition.now.term.value)) (reads-parameters w 32 c.args.definition.now.variables c.args.values.now)) c.eval_term.ensures
