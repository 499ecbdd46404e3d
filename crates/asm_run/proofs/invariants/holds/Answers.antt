use Rattle.std.proofs.Common.{sym, ap, subst, ◌∙◌}
use Rattle.asm_node.specs.Env.{places_of}
use Rattle.asm_node.specs.Model.{machine_of}
use Rattle.asm_node.specs.Step.{answer}
use Rattle.asm_node.specs.Term.{val}
use Rattle.asm_node.specs.Tree.{plain}
use Rattle.asm_node.specs.Values.{is_true}
use Rattle.asm_eval.specs.Answer.{Ends}
use Rattle.asm_eval.specs.World.{world_in}
use Rattle.asm_run.proofs.Truths.{exact-at, value-at}
use Rattle.asm_run.proofs.invariants.holds.Goals as goal

pub eval-requires-clause-exact : goal.eval-requires-clause-exact
eval-requires-clause-exact c =
    exact-at (machine_of c.args.model.now) c.args.state.now c.new-input.result (places_of c.new-env.result) (plain c.args.condition.now.value) c.new-input.ensures c.new-env.ensures.places (c.requires.exact c.args.state.now c.requires.state)

pub returns-in-Ok : goal.returns-in-Ok
returns-in-Ok c =
    let same = value-at (machine_of c.args.model.now) c.args.state.now c.new-input.result (places_of c.new-env.result) (plain c.args.condition.now.value) c.new-input.ensures c.new-env.ensures.places in
    c.is_true.ensures ∙ sym (ap (λ o. is_true (answer o)) (same ∙ c.in-Ok.ensures))

pub returns-in-Err-Need : goal.returns-in-Err-Need
returns-in-Err-Need c =
    let m = machine_of c.args.model.now in
    let s = c.args.state.now in
    let t = plain c.args.condition.now.value in
    let same = value-at m s c.new-input.result (places_of c.new-env.result) t c.new-input.ensures c.new-env.ensures.places in
    sym (ap (λ o. is_true (answer o)) (same ∙ subst (λ e. Ends e (val (world_in m s c.new-input.result) (places_of c.new-env.result) t)) c.in-Err-Need.field-0-is c.in-Err-Need.ensures))
