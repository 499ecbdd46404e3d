use Rattle.std.proofs.Common.{sym, subst, ◌∙◌}
use Rattle.asm_eval.specs.Answer.{Ends}
use Rattle.asm_eval.specs.World.{world_in}
use Rattle.asm_fire.proofs.Sounding.{condition_of_model}
use Rattle.asm_node.specs.Env.{places_of}
use Rattle.asm_node.specs.Model.{machine_of}
use Rattle.asm_node.specs.Step.{IsState}
use Rattle.asm_node.specs.Term.{val}
use Rattle.asm_node.specs.Tree.{plain}
use Rattle.avalla_play.proofs.Judgement.{exact-in, said-need, said-value, value-in}
use Rattle.avalla_play.proofs.judging.judge.Goals as goal

pub eval-requires-clause-state : goal.eval-requires-clause-state
eval-requires-clause-state c =
    let m = machine_of c.args.context.now.model.now in
    subst (IsState m) (sym c.state.ensures.value) (subst (λ n. IsState n c.args.stage.now.session.state) c.requires.ready.machine c.state.ensures.is_state)

pub eval-requires-clause-exact : goal.eval-requires-clause-exact
eval-requires-clause-exact c =
    let m = machine_of c.args.context.now.model.now in
    let i = c.args.stage.now.input in
    let s = c.args.stage.now.session.state in
    let t = plain c.args.condition.now.value in
    let is_state = subst (λ n. IsState n s) c.requires.ready.machine c.state.ensures.is_state in
    exact-in m s c.state.result.now i (places_of c.new-env.result) t c.state.ensures.value c.new-env.ensures.places (condition_of_model c.args.context.now.model.now i c.requires.ready.input t c.requires.condition s is_state)

pub returns-in-Ok : goal.returns-in-Ok
returns-in-Ok c =
    let m = machine_of c.args.context.now.model.now in
    let i = c.args.stage.now.input in
    let s = c.args.stage.now.session.state in
    let t = plain c.args.condition.now.value in
    let same = value-in m s c.state.result.now i (places_of c.new-env.result) t c.state.ensures.value c.new-env.ensures.places in
    said-value _ c.in-Ok.value c.decide.result (same ∙ c.in-Ok.ensures) c.decide.ensures

pub returns-in-Err-Need : goal.returns-in-Err-Need
returns-in-Err-Need c =
    let m = machine_of c.args.context.now.model.now in
    let i = c.args.stage.now.input in
    let s = c.args.stage.now.session.state in
    let t = plain c.args.condition.now.value in
    let same = value-in m s c.state.result.now i (places_of c.new-env.result) t c.state.ensures.value c.new-env.ensures.places in
    said-need _ c.in-Err-Need.slot (same ∙ subst (λ e. Ends e (val (world_in m c.state.result.now i) (places_of c.new-env.result) t)) c.in-Err-Need.field-0-is c.in-Err-Need.ensures)
