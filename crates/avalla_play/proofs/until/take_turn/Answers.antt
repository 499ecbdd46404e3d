use Rattle.std.proofs.Common.{Some, sym, ap, subst, ◌∙◌}
use Rattle.std.proofs.lemmas.Result.{err_from_is_err_and}
use Rattle.std.specs.Prelude.{Err, Ok}
use Rattle.asm_node.specs.Model.{machine_of}
use Rattle.asm_node.specs.Tree.{plain}
use Rattle.asm_node.specs.Words.{left}
use Rattle.asm_run.proofs.Runs.{one-written}
use Rattle.avalla_play.specs.Moves.{Point, step}
use Rattle.avalla_play.specs.Standing.{Turns, point_of, said}
use Rattle.avalla_play.proofs.Landing.{lands-none, lands-some}
use Rattle.avalla_play.proofs.Turning.{turn-lacks, turn-lacks-text, turn-met, turn-met-text, turn-unmet, turn-unmet-text}
use Rattle.avalla_play.proofs.Writing.{none-written, one-stopped}
use Rattle.avalla_play.proofs.until.take_turn.Goals as goal

pub returns-in-Met-clause-writes : goal.returns-in-Met-clause-writes
returns-in-Met-clause-writes g c =
    let m = machine_of c.args.context.now.model.now in
    let t = plain c.args.condition.now.value in
    let q : Point = point_of c.args.stage.now (left c.args.words.now) in
    none-written g.K.Sink.written g.K.Sink.faults c.args.sink.now _ _ (turn-met-text m c.args.context.now.sources.now t q (c.in_ok-judge.ensures ∙ ap said c.in-Met.is))

pub returns-in-Met-clause-turns : goal.returns-in-Met-clause-turns
returns-in-Met-clause-turns g c =
    let m = machine_of c.args.context.now.model.now in
    let t = plain c.args.condition.now.value in
    let q : Point = point_of c.args.stage.now (left c.args.words.now) in
    record { comes_to = turn-met m c.args.context.now.sources.now t q (c.in_ok-judge.ensures ∙ ap said c.in-Met.is); ready = c.requires.ready }

pub returns-in_err-end-in-Unmet-clause-writes : goal.returns-in_err-end-in-Unmet-clause-writes
returns-in_err-end-in-Unmet-clause-writes g c =
    let m = machine_of c.args.context.now.model.now in
    let t = plain c.args.condition.now.value in
    let q : Point = point_of c.args.stage.now (left c.args.words.now) in
    let p = err_from_is_err_and c.from_residual-in_err-end-in-Unmet.result c.from_residual-in_err-end-in-Unmet.ensures.1 in
    rw (p.1, p.2) (one-stopped g.K.Sink.written g.K.Sink.faults c.args.sink.now c.make_step.new.sink _ _ _ (sym (turn-unmet-text m c.args.context.now.sources.now t q (c.in_ok-judge.ensures ∙ ap said c.in-Unmet.is))) c.in_err-end-in-Unmet.ensures.writes)

pub returns-in-Some-clause-writes : goal.returns-in-Some-clause-writes
returns-in-Some-clause-writes g c =
    let m = machine_of c.args.context.now.model.now in
    let t = plain c.args.condition.now.value in
    let q : Point = point_of c.args.stage.now (left c.args.words.now) in
    one-written g.K.Sink.written g.K.Sink.faults c.args.sink.now c.make_step.new.sink _ _ _ _ (turn-unmet-text m c.args.context.now.sources.now t q (c.in_ok-judge.ensures ∙ ap said c.in-Unmet.is)) c.in_ok-end-in-Unmet.ensures.writes

pub returns-in-Some-clause-turns : goal.returns-in-Some-clause-turns
returns-in-Some-clause-turns g c =
    let m = machine_of c.args.context.now.model.now in
    let sources = c.args.context.now.sources.now in
    let t = plain c.args.condition.now.value in
    let q : Point = point_of c.args.stage.now (left c.args.words.now) in
    let ended = lands-some m c.make_step.new.stage (left c.make_step.new.words) (step m sources m.main q).to c.in_ok-end-in-Unmet.field-0 c.in-Some.end c.in-Some.is c.in_ok-end-in-Unmet.ensures.lands in
    record { comes_to = turn-unmet m sources t q (c.in_ok-judge.ensures ∙ ap said c.in-Unmet.is) (Err (record { end = c.in-Some.end; words = left c.make_step.new.words })) ended; ready = tt }

pub returns-in-None-clause-writes : goal.returns-in-None-clause-writes
returns-in-None-clause-writes g c =
    let m = machine_of c.args.context.now.model.now in
    let t = plain c.args.condition.now.value in
    let q : Point = point_of c.args.stage.now (left c.args.words.now) in
    one-written g.K.Sink.written g.K.Sink.faults c.args.sink.now c.make_step.new.sink _ _ _ _ (turn-unmet-text m c.args.context.now.sources.now t q (c.in_ok-judge.ensures ∙ ap said c.in-Unmet.is)) c.in_ok-end-in-Unmet.ensures.writes

pub returns-in-None-clause-turns : goal.returns-in-None-clause-turns
returns-in-None-clause-turns g c =
    let m = machine_of c.args.context.now.model.now in
    let sources = c.args.context.now.sources.now in
    let t = plain c.args.condition.now.value in
    let q : Point = point_of c.args.stage.now (left c.args.words.now) in
    let reached = lands-none m c.make_step.new.stage (left c.make_step.new.words) (step m sources m.main q).to c.in_ok-end-in-Unmet.field-0 c.in-None.is c.in_ok-end-in-Unmet.ensures.lands in
    record { comes_to = turn-unmet m sources t q (c.in_ok-judge.ensures ∙ ap said c.in-Unmet.is) (Ok (point_of c.make_step.new.stage (left c.make_step.new.words))) reached.leads; ready = reached.ready }

pub returns-in_err-stop_by-in-Lacks-clause-writes : goal.returns-in_err-stop_by-in-Lacks-clause-writes
returns-in_err-stop_by-in-Lacks-clause-writes g c =
    let m = machine_of c.args.context.now.model.now in
    let t = plain c.args.condition.now.value in
    let q : Point = point_of c.args.stage.now (left c.args.words.now) in
    let p = err_from_is_err_and c.from_residual-in_err-stop_by-in-Lacks.result c.from_residual-in_err-stop_by-in-Lacks.ensures.1 in
    rw (p.1, p.2) (one-stopped g.K.Sink.written g.K.Sink.faults c.args.sink.now c.stop_by.new.sink _ _ _ (sym (turn-lacks-text m c.args.context.now.sources.now t q c.in-Lacks.slot (c.in_ok-judge.ensures ∙ ap said c.in-Lacks.is))) c.in_err-stop_by-in-Lacks.ensures.writes)

pub returns-in_ok-stop_by-in-Lacks-clause-writes : goal.returns-in_ok-stop_by-in-Lacks-clause-writes
returns-in_ok-stop_by-in-Lacks-clause-writes g c =
    let m = machine_of c.args.context.now.model.now in
    let t = plain c.args.condition.now.value in
    let q : Point = point_of c.args.stage.now (left c.args.words.now) in
    one-written g.K.Sink.written g.K.Sink.faults c.args.sink.now c.stop_by.new.sink _ _ _ _ (turn-lacks-text m c.args.context.now.sources.now t q c.in-Lacks.slot (c.in_ok-judge.ensures ∙ ap said c.in-Lacks.is)) c.in_ok-stop_by-in-Lacks.ensures.writes

pub returns-in_ok-stop_by-in-Lacks-clause-turns : goal.returns-in_ok-stop_by-in-Lacks-clause-turns
returns-in_ok-stop_by-in-Lacks-clause-turns g c =
    let m = machine_of c.args.context.now.model.now in
    let sources = c.args.context.now.sources.now in
    let t = plain c.args.condition.now.value in
    let q : Point = point_of c.args.stage.now (left c.args.words.now) in
    subst (λ end. Turns (Some end) m c.args.stage.now (left c.args.words.now) sources t q) (sym c.in_ok-stop_by-in-Lacks.ensures.end)
    (record { comes_to = turn-lacks m sources t q c.in-Lacks.slot (c.in_ok-judge.ensures ∙ ap said c.in-Lacks.is); ready = tt })
