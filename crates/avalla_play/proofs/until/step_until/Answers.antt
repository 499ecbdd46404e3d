use Rattle.std.proofs.Common.{◌≡◌, ◌∙◌, ◌-◌, ◌+◌, ◌++◌, ℕ, List, ap, sym, subst, arith, refl}
use Rattle.std.proofs.lemmas.Result.{err_from_is_err_and}
use Rattle.asm_io.proofs.Printing.{front_none}
use Rattle.asm_node.specs.Model.{machine_of}
use Rattle.asm_node.specs.Tree.{plain}
use Rattle.asm_node.specs.Words.{left}
use Rattle.asm_run.proofs.Runs.{last, stopped, went_on, written_all}
use Rattle.avalla_play.specs.declared.stage.Stage.{Stage}
use Rattle.avalla_play.specs.Moves.{Move, Point, steps_until}
use Rattle.avalla_play.specs.Standing.{Lands, Turns, point_of, turn_of}
use Rattle.avalla_play.proofs.Turning.{lands-after, rest-none, turn-cut, until-last, until-more}
use Rattle.avalla_play.proofs.Writing.{from_ok}
use Rattle.avalla_play.proofs.until.step_until.Goals as goal

pub turns-init : goal.turns-init
turns-init g c =
    let m = machine_of c.args.context.now.model.now in
    let budget = c.args.context.now.budget in
    let q : Point = point_of c.args.stage.now (left c.args.words.now) in
    let whole : ℕ → Move = λ n. steps_until m c.args.context.now.sources.now budget (plain c.args.condition.now.value) n q in
    let all : budget - 0 ≡ budget = omega arith in
    record {
      ready = c.requires.ready;
      printed = rw all (front_none g.K.Sink.written g.K.Sink.faults c.args.sink.now (whole budget).text);
      same_end = ap (λ n. (whole n).to) all;
      same_words = refl;
      same_checks = refl;
    }

pub returns-in_err-end-clause-writes : goal.returns-in_err-end-clause-writes
returns-in_err-end-clause-writes g c =
    let m = machine_of c.args.context.now.model.now in
    let sources = c.args.context.now.sources.now in
    let budget = c.args.context.now.budget in
    let t = plain c.args.condition.now.value in
    let q : Point = point_of c.turns.stage (left c.turns.words) in
    let more : Point → Move = steps_until m sources budget t (budget - c.turns.counter - 1) in
    let p = err_from_is_err_and c.from_residual.result c.from_residual.ensures.1 in
    let cut = ap (λ (z : Move). z.text) (until-more m sources t q budget (budget - c.turns.counter) (omega arith)) ∙ turn-cut m sources t q more in
    rw (p.1, p.2) (stopped g.K.Sink.written g.K.Sink.faults _ _ _ _ _ _ _ _ cut c.turns.invariant.printed c.in_err-end.ensures.writes)

pub returns-in-Some-clause-writes : goal.returns-in-Some-clause-writes
returns-in-Some-clause-writes g c =
    let m = machine_of c.args.context.now.model.now in
    let sources = c.args.context.now.sources.now in
    let budget = c.args.context.now.budget in
    let t = plain c.args.condition.now.value in
    let q : Point = point_of c.turns.stage (left c.turns.words) in
    let new : Stage = c.take_turn.new.stage in
    let rest = left c.take_turn.new.words in
    let more : Point → Move = steps_until m sources budget t (budget - c.turns.counter - 1) in
    let turn = subst (λ a. Turns a m new rest sources t q) c.in-Some.is c.in_ok-end.ensures.turns in
    let cut = ap (λ (z : Move). z.text) (until-more m sources t q budget (budget - c.turns.counter) (omega arith) ∙ turn.comes_to more) in
    written_all g.K.Sink.written g.K.Sink.faults _ _ _ _ _ (rest-none c.in-Some.end new rest more) (went_on g.K.Sink.written g.K.Sink.faults _ _ _ _ _ _ _ _ cut c.turns.invariant.printed c.in_ok-end.ensures.writes)

pub returns-in-Some-clause-lands : goal.returns-in-Some-clause-lands
returns-in-Some-clause-lands g c =
    let m = machine_of c.args.context.now.model.now in
    let sources = c.args.context.now.sources.now in
    let budget = c.args.context.now.budget in
    let t = plain c.args.condition.now.value in
    let q : Point = point_of c.turns.stage (left c.turns.words) in
    let new : Stage = c.take_turn.new.stage in
    let rest = left c.take_turn.new.words in
    let more : Point → Move = steps_until m sources budget t (budget - c.turns.counter - 1) in
    let turn = subst (λ a. Turns a m new rest sources t q) c.in-Some.is c.in_ok-end.ensures.turns in
    lands-after m c.in-Some.end new rest more _ turn.ready (sym c.turns.invariant.same_end ∙ ap (λ (z : Move). z.to) (until-more m sources t q budget (budget - c.turns.counter) (omega arith) ∙ turn.comes_to more))

pub turns-preserved : goal.turns-preserved
turns-preserved g c =
    let m = machine_of c.args.context.now.model.now in
    let sources = c.args.context.now.sources.now in
    let budget = c.args.context.now.budget in
    let t = plain c.args.condition.now.value in
    let q : Point = point_of c.turns.stage (left c.turns.words) in
    let new : Stage = c.take_turn.new.stage in
    let rest = left c.take_turn.new.words in
    let more : Point → Move = steps_until m sources budget t (budget - c.turns.counter - 1) in
    let turn = subst (λ a. Turns a m new rest sources t q) c.in_default.is c.in_ok-end.ensures.turns in
    let less : budget - c.turns.counter - 1 ≡ budget - (c.turns.counter + 1) = omega arith in
    let text = (turn_of m sources t q).text in
    let next = until-more m sources t q budget (budget - c.turns.counter) (omega arith) ∙ turn.comes_to more in
    let cut = ap (λ (z : Move). z.text) next ∙ ap (λ n. text ++ (steps_until m sources budget t n (point_of new rest)).text) less in
    record {
      ready = turn.ready;
      printed = went_on g.K.Sink.written g.K.Sink.faults _ _ _ _ _ _ _ _ cut c.turns.invariant.printed c.in_ok-end.ensures.writes;
      same_end = sym (ap (λ (z : Move). z.to) next ∙ ap (λ n. (steps_until m sources budget t n (point_of new rest)).to) less) ∙ c.turns.invariant.same_end;
      same_words = c.in_ok-end.ensures.same_words ∙ c.turns.invariant.same_words;
      same_checks = c.in_ok-end.ensures.checks ∙ c.turns.invariant.same_checks;
    }

pub test_last-requires-clause-ready : goal.test_last-requires-clause-ready
test_last-requires-clause-ready g c = c.turns.invariant.ready

pub returns-clause-writes : goal.returns-clause-writes
returns-clause-writes g c =
    let m = machine_of c.args.context.now.model.now in
    let budget = c.args.context.now.budget in
    let q : Point = point_of c.turns.stage (left c.turns.words) in
    let cut = ap (λ (z : Move). z.text) (until-last m c.args.context.now.sources.now (plain c.args.condition.now.value) q budget (budget - c.turns.counter) (omega arith)) in
    last g.K.Sink.written g.K.Sink.faults _ _ _ _ _ _ _ cut c.turns.invariant.printed (c.test_last.ensures.writes (left c.turns.words))

pub returns-clause-lands : goal.returns-clause-lands
returns-clause-lands g c =
    let m = machine_of c.args.context.now.model.now in
    let sources = c.args.context.now.sources.now in
    let budget = c.args.context.now.budget in
    let t = plain c.args.condition.now.value in
    let s : Stage = c.turns.stage in
    let words = left c.turns.words in
    let q : Point = point_of s words in
    let whole : Move = steps_until m sources budget t budget (point_of c.args.stage.now (left c.args.words.now)) in
    let same : (steps_until m sources budget t 0 q).to ≡ whole.to = sym (ap (λ (z : Move). z.to) (until-last m sources t q budget (budget - c.turns.counter) (omega arith))) ∙ c.turns.invariant.same_end in
    from_ok c.test_last.result (λ end. (ws : List ℕ) → Lands end m s ws (steps_until m sources budget t 0 (point_of s ws)).to) (λ end. Lands end m s words whole.to)
    (λ end lands. subst (λ to. Lands end m s words to) same (lands words)) c.test_last.ensures.lands
