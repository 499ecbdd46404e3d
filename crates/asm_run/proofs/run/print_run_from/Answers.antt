use Rattle.std.proofs.Common.{◌≡◌, ◌∙◌, ◌-◌, ◌++◌, ℕ, List, ap, sym, subst, drop, arith, refl}
use Rattle.std.specs.Prelude.{All, Err}
use Rattle.std.proofs.lemmas.Result.{err_from_is_err_and, IfOk-weaker}
use Rattle.asm_io.proofs.Printing.{front_none}
use Rattle.asm_node.specs.Machine.{State}
use Rattle.asm_node.specs.Step.{IsInput, broken}
use Rattle.asm_node.specs.Words.{left}
use Rattle.asm_run.specs.declared.run.RunEnd.{RunEnd}
use Rattle.asm_run.specs.Printed.{Printed, after, ended, first_input, go_on, numbered_state, run_from, stop_of, unless_broken}
use Rattle.asm_run.specs.Reached.{landed, reached_from}
use Rattle.asm_run.specs.Stepping.{step_from}
use Rattle.asm_run.proofs.Runs.{first-is_input, goes-none, goes-some, last, later, later-is, others, run_from-cut, run_from-end, run_from-next, stopped, went_on, written_all}
use Rattle.asm_run.proofs.Reaching.{goes-further, stops-there, whatever}
use Rattle.asm_run.proofs.run.print_run_from.Goals as goal

pub steps-init : goal.steps-init
steps-init g c =
    let whole = run_from c.args.session.now.machine c.args.sources.now 0 c.args.session.now.state c.args.inputs.now (left c.args.words.now) in
    let all : c.args.steps - 0 ≡ c.args.steps = omega arith in
    record {
      same_machine = refl;
      printed = rw all (front_none g.K.Sink.written g.K.Sink.faults c.args.sink.now (whole c.args.steps).text);
      same_words = refl;
      same_reached = ap (reached_from c.args.session.now.machine c.args.session.now.state c.args.inputs.now (left c.args.words.now)) all;
      same_end = ap (λ n. (whole n).end) all;
    }

pub print_step-requires-clause-input : goal.print_step-requires-clause-input
print_step-requires-clause-input g c =
    let m = c.steps.session.machine in
    subst (IsInput m) (sym (c.input_at-input.ensures ∙ ap (λ xs. first_input (drop c.steps.number xs)) c.slice.ensures))
    (first-is_input m c.args.inputs.now c.steps.number (subst (λ n. All (IsInput n) c.args.inputs.now) (sym c.steps.invariant.same_machine) c.requires.inputs))

pub returns-in_err-stop-clause-writes : goal.returns-in_err-stop-clause-writes
returns-in_err-stop-clause-writes g c =
    let m = c.steps.session.machine in
    let is = c.input_at-input.ensures ∙ ap (λ xs. first_input (drop c.steps.number xs)) c.slice.ensures in
    let p = err_from_is_err_and c.from_residual.result c.from_residual.ensures.1 in
    let cut = run_from-cut m c.args.sources.now c.steps.number (c.args.steps - c.steps.number) c.steps.session.state (drop c.steps.number c.args.inputs.now) (left c.steps.words) c.input_at-input.result.now (omega arith) is in
    rw (p.1, p.2) (stopped g.K.Sink.written g.K.Sink.faults _ _ _ _ _ _ _ _ cut c.steps.invariant.printed c.in_err-stop.ensures.writes)

pub returns-in-Some-clause-writes : goal.returns-in-Some-clause-writes
returns-in-Some-clause-writes g c =
    let m = c.steps.session.machine in
    let is = c.input_at-input.ensures ∙ ap (λ xs. first_input (drop c.steps.number xs)) c.slice.ensures in
    let step = step_from m c.steps.session.state c.input_at-input.result.now (left c.steps.words) in
    let stops : step ≡ Err c.in-Some.stop = goes-some c.in_ok-stop.stop c.in-Some.stop c.print_step.new.session.state (left c.print_step.new.words) step c.in-Some.is c.in_ok-stop.ensures.goes in
    let cut = run_from-cut m c.args.sources.now c.steps.number (c.args.steps - c.steps.number) c.steps.session.state (drop c.steps.number c.args.inputs.now) (left c.steps.words) c.input_at-input.result.now (omega arith) is in
    let none = ap (λ x. others m c.args.sources.now x (later m c.args.sources.now c.steps.number (c.args.steps - c.steps.number) (drop c.steps.number c.args.inputs.now))) stops in
    written_all g.K.Sink.written g.K.Sink.faults _ _ _ _ _ none (went_on g.K.Sink.written g.K.Sink.faults _ _ _ _ _ _ _ _ cut c.steps.invariant.printed c.in_ok-stop.ensures.writes)

pub returns-in-Some-clause-end : goal.returns-in-Some-clause-end
returns-in-Some-clause-end g c =
    let m = c.steps.session.machine in
    let is = c.input_at-input.ensures ∙ ap (λ xs. first_input (drop c.steps.number xs)) c.slice.ensures in
    let step = step_from m c.steps.session.state c.input_at-input.result.now (left c.steps.words) in
    let stops : step ≡ Err c.in-Some.stop = goes-some c.in_ok-stop.stop c.in-Some.stop c.print_step.new.session.state (left c.print_step.new.words) step c.in-Some.is c.in_ok-stop.ensures.goes in
    let next = run_from-next m c.args.sources.now c.steps.number (c.args.steps - c.steps.number) c.steps.session.state (drop c.steps.number c.args.inputs.now) (left c.steps.words) c.input_at-input.result.now (omega arith) is in
    sym (ap (λ x. (go_on m c.args.sources.now x (later m c.args.sources.now c.steps.number (c.args.steps - c.steps.number) (drop c.steps.number c.args.inputs.now))).end) stops) ∙ sym next ∙ c.steps.invariant.same_end

pub steps-preserved : goal.steps-preserved
steps-preserved g c =
    let m = c.steps.session.machine in
    let sources = c.args.sources.now in
    let number = c.steps.number in
    let inputs = c.args.inputs.now in
    let new = c.print_step.new.session in
    let rest = left c.print_step.new.words in
    let is = c.input_at-input.ensures ∙ ap (λ xs. first_input (drop number xs)) c.slice.ensures in
    let step = step_from m c.steps.session.state c.input_at-input.result.now (left c.steps.words) in
    let leads = goes-none c.in_ok-stop.stop new.state rest step c.in_default.is c.in_ok-stop.ensures.goes in
    let more = later m sources number (c.args.steps - number) (drop number inputs) in
    let later_is = later-is m new.machine sources number c.args.steps inputs new.state rest c.in_ok-stop.ensures.machine in
    let piece = numbered_state m number c.steps.session.state ++ stop_of m sources step in
    let cut = run_from-cut m sources number (c.args.steps - number) c.steps.session.state (drop number inputs) (left c.steps.words) c.input_at-input.result.now (omega arith) is
    ∙ ap (λ x. piece ++ others m sources x more) leads ∙ ap (λ (q : Printed). piece ++ q.text) later_is in
    let next = run_from-next m sources number (c.args.steps - number) c.steps.session.state (drop number inputs) (left c.steps.words) c.input_at-input.result.now (omega arith) is
    ∙ ap (λ x. (go_on m sources x more).end) leads ∙ ap (λ (q : Printed). q.end) later_is in
    record {
      same_machine = c.in_ok-stop.ensures.machine ∙ c.steps.invariant.same_machine;
      printed = went_on g.K.Sink.written g.K.Sink.faults _ _ _ _ _ _ _ _ cut c.steps.invariant.printed c.in_ok-stop.ensures.writes;
      same_words = c.in_ok-stop.ensures.same_words ∙ c.steps.invariant.same_words;
      same_reached = sym (goes-further m new.machine c.steps.session.state new.state inputs (left c.steps.words) rest number c.args.steps step c.in_ok-stop.ensures.machine (omega arith) (ap (λ i. step_from m c.steps.session.state i (left c.steps.words)) (sym is)) leads) ∙ c.steps.invariant.same_reached;
      same_end = sym next ∙ c.steps.invariant.same_end;
    }

pub returns-in-Some-clause-reached : goal.returns-in-Some-clause-reached
returns-in-Some-clause-reached g c =
    let m = c.steps.session.machine in
    let is = c.input_at-input.ensures ∙ ap (λ xs. first_input (drop c.steps.number xs)) c.slice.ensures in
    let step = step_from m c.steps.session.state c.input_at-input.result.now (left c.steps.words) in
    let here : State × List ℕ = (c.steps.session.state, left c.steps.words) in
    let stops : step ≡ Err c.in-Some.stop = goes-some c.in_ok-stop.stop c.in-Some.stop c.print_step.new.session.state (left c.print_step.new.words) step c.in-Some.is c.in_ok-stop.ensures.goes in
    c.in_ok-stop.ensures.lands ∙ ap (landed here) stops
    ∙ sym (stops-there m c.steps.session.state (drop c.steps.number c.args.inputs.now) (left c.steps.words) (c.args.steps - c.steps.number) c.in-Some.stop (omega arith) (ap (λ i. step_from m c.steps.session.state i (left c.steps.words)) (sym is) ∙ stops))
    ∙ c.steps.invariant.same_reached

pub returns-clause-reached : goal.returns-clause-reached
returns-clause-reached g c =
    let m = c.steps.session.machine in
    let none : c.args.steps - c.steps.number ≡ 0 = omega arith in
    let reached = sym (ap (reached_from m c.steps.session.state (drop c.steps.number c.args.inputs.now) (left c.steps.words)) none) ∙ c.steps.invariant.same_reached in
    whatever c.print_last.result _ reached

pub returns-clause-writes : goal.returns-clause-writes
returns-clause-writes g c =
    let m = c.steps.session.machine in
    let s = c.steps.session.state in
    let sources = c.args.sources.now in
    let end : c.steps.number ≡ c.args.steps = omega arith in
    let cut = ap (λ (q : Printed). q.text) (run_from-end m sources c.steps.number (c.args.steps - c.steps.number) s (drop c.steps.number c.args.inputs.now) (left c.steps.words) (omega arith))
    ∙ ap (λ n. (after (numbered_state m n s) (unless_broken m sources (broken m s) ended)).text) end in
    last g.K.Sink.written g.K.Sink.faults _ _ _ _ _ _ _ cut c.steps.invariant.printed c.print_last.ensures.writes

pub returns-clause-end : goal.returns-clause-end
returns-clause-end g c =
    let m = c.steps.session.machine in
    let s = c.steps.session.state in
    let sources = c.args.sources.now in
    let last_end : RunEnd = (unless_broken m sources (broken m s) ended).end in
    let whole_end : RunEnd = (run_from c.args.session.now.machine sources 0 c.args.session.now.state c.args.inputs.now (left c.args.words.now) c.args.steps).end in
    let same : last_end ≡ whole_end =
    sym (ap (λ (q : Printed). q.end) (run_from-end m sources c.steps.number (c.args.steps - c.steps.number) s (drop c.steps.number c.args.inputs.now) (left c.steps.words) (omega arith)))
    ∙ c.steps.invariant.same_end in
    IfOk-weaker c.print_last.result (λ (e : RunEnd). e ≡ last_end) (λ (e : RunEnd). e ≡ whole_end) (λ e is. is ∙ same) c.print_last.ensures.end
