use Rattle.std.proofs.Common.{List, [], ◌∷◌, ◌++◌, ◌+◌, if◌then◌else◌, drop, sym, ap, subst, ◌∙◌}
use Rattle.std.proofs.lemmas.Result.{err_from_is_err_and}
use Rattle.asm_domain.specs.declared.value.Value.{Value}
use Rattle.asm_node.specs.declared.stop.Stop.TheVariants.{UndefGuard}
use Rattle.asm_node.specs.Env.{places_of}
use Rattle.asm_node.specs.Model.{machine_of}
use Rattle.asm_node.specs.Taking.{Faults, candidates, evaluated}
use Rattle.asm_node.specs.Term.{Outcome, branch, put_tuple, val}
use Rattle.asm_node.specs.Tree.{plain}
use Rattle.asm_eval.specs.Answer.{Ends}
use Rattle.asm_eval.specs.World.{world_in}
use Rattle.asm_fire.specs.Answer.{Halts}
use Rattle.asm_fire.specs.Fault.{fire_error}
use Rattle.asm_fire.proofs.Firing.{halts-evaluated, halts-truth, truth-is, candidates-drop, candidates-step, candidates-end}
use Rattle.asm_fire.proofs.candidates.candidates.Goals as goal

pub returns-in_err-value : goal.returns-in_err-value
returns-in_err-value g c = λ words.
    let guard : List Value → Outcome Value = λ vs. val (world_in (machine_of c.args.world.now.model.now) (g.S.Store.state c.args.world.now.store.now) c.args.world.now.input.now) (put_tuple c.args.binders.now vs (places_of c.args.env.now)) (plain c.args.guard.now.value) in
    let p = err_from_is_err_and c.from_residual.result c.from_residual.ensures.1 in
    rw (p.1, p.2) (subst (Halts (fire_error c.in_err-value.field-0.0) words) (sym (c.loop-tuple.invariant words ∙ candidates-drop c.args.place guard c.args.tuples.now c.loop-tuple.tuple-index c.tuple-item.result c.loop-tuple.found words c.loop-tuple-test.true c.tuple-item.is))
    (halts-evaluated c.in_err-value.field-0.0 words (guard c.tuple-item.result) (λ v. branch v (candidates c.args.place guard (drop (c.loop-tuple.tuple-index + 1) c.args.tuples.now) (c.loop-tuple.found ++ c.tuple-item.result ∷ []) words) (candidates c.args.place guard (drop (c.loop-tuple.tuple-index + 1) c.args.tuples.now) c.loop-tuple.found words) (Faults (UndefGuard c.args.place) words)) (subst (λ vs. Ends c.in_err-value.field-0.0 (guard vs)) c.slice.ensures c.in_err-value.ensures)))

pub returns-in_err-holds : goal.returns-in_err-holds
returns-in_err-holds g c = λ words.
    let guard : List Value → Outcome Value = λ vs. val (world_in (machine_of c.args.world.now.model.now) (g.S.Store.state c.args.world.now.store.now) c.args.world.now.input.now) (put_tuple c.args.binders.now vs (places_of c.args.env.now)) (plain c.args.guard.now.value) in
    let p = err_from_is_err_and c.from_residual-in_err-holds.result c.from_residual-in_err-holds.ensures.1 in
    rw (p.1, p.2) (subst (Halts c.in_err-holds.field-0.0 words) (sym (c.loop-tuple.invariant words ∙ candidates-drop c.args.place guard c.args.tuples.now c.loop-tuple.tuple-index c.tuple-item.result c.loop-tuple.found words c.loop-tuple-test.true c.tuple-item.is
    ∙ ap (λ o. evaluated o words (λ v. branch v (candidates c.args.place guard (drop (c.loop-tuple.tuple-index + 1) c.args.tuples.now) (c.loop-tuple.found ++ c.tuple-item.result ∷ []) words) (candidates c.args.place guard (drop (c.loop-tuple.tuple-index + 1) c.args.tuples.now) c.loop-tuple.found words) (Faults (UndefGuard c.args.place) words))) (ap guard (sym c.slice.ensures) ∙ c.in_ok-value.ensures)))
    (halts-truth c.in_err-holds.field-0.0 c.args.place c.in_ok-value.value words _ _ (c.in_err-holds.ensures words)))

pub loop-tuple-preserved : goal.loop-tuple-preserved
loop-tuple-preserved g c = λ words.
    let guard : List Value → Outcome Value = λ vs. val (world_in (machine_of c.args.world.now.model.now) (g.S.Store.state c.args.world.now.store.now) c.args.world.now.input.now) (put_tuple c.args.binders.now vs (places_of c.args.env.now)) (plain c.args.guard.now.value) in
    candidates-step c.args.place guard c.args.tuples.now c.loop-tuple.tuple-index c.tuple-item.result c.in_ok-value.value c.in_ok-holds.holds c.loop-tuple.found c.keep_if.new.tuples words (candidates c.args.place guard c.args.tuples.now [] words)
    c.loop-tuple-test.true c.tuple-item.is (ap guard (sym c.slice.ensures) ∙ c.in_ok-value.ensures) (truth-is c.args.place c.in_ok-value.value words c.in_ok-holds.holds (c.in_ok-holds.ensures words))
    (c.in_ok-keep_if.ensures ∙ ap (λ t. c.loop-tuple.found ++ (if c.in_ok-holds.holds then t ∷ [] else [])) c.slice-in-loop-tuple.ensures) (c.loop-tuple.invariant words)

pub returns : goal.returns
returns g c = λ words.
    c.loop-tuple.invariant words ∙ candidates-end c.args.place (λ vs. val (world_in (machine_of c.args.world.now.model.now) (g.S.Store.state c.args.world.now.store.now) c.args.world.now.input.now) (put_tuple c.args.binders.now vs (places_of c.args.env.now)) (plain c.args.guard.now.value)) c.args.tuples.now c.loop-tuple.tuple-index c.loop-tuple.found words c.loop-tuple-test.false
