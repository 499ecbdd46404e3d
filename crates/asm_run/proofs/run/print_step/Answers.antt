use Rattle.std.proofs.Common.{◌∙◌, ap, sym}
use Rattle.std.proofs.lemmas.Result.{err_from_is_err_and}
use Rattle.asm_io.proofs.Printing.{writes_stopped}
use Rattle.asm_node.specs.Machine.{Machine}
use Rattle.asm_node.specs.Words.{left}
use Rattle.asm_text.specs.Texts.{stop_line}
use Rattle.asm_run.specs.declared.error.OutError.TheVariants.{Write}
use Rattle.asm_run.specs.Printed.{numbered_state, stop_of}
use Rattle.asm_run.specs.Stepping.{step_from}
use Rattle.asm_run.proofs.Runs.{goes-some, second-stopped}
use Rattle.asm_run.proofs.run.print_step.Goals as goal

pub returns-in_err-print_state-clause-writes : goal.returns-in_err-print_state-clause-writes
returns-in_err-print_state-clause-writes g c =
    let m = c.args.session.now.machine in
    let s = c.args.session.now.state in
    let p = err_from_is_err_and c.from_residual.result c.from_residual.ensures.1 in
    rw (p.1, p.2) (writes_stopped g.K.Sink.written g.K.Sink.faults c.args.sink.now c.print_state.new.sink (numbered_state m c.args.number s) (stop_of m c.args.sources.now (step_from m s c.args.input.now (left c.args.words.now))) Write _ c.in_err-print_state.ensures)

pub returns-in_err-print_stop-in-Some-clause-writes : goal.returns-in_err-print_stop-in-Some-clause-writes
returns-in_err-print_stop-in-Some-clause-writes g c =
    let m = c.args.session.now.machine in
    let s = c.args.session.now.state in
    let step = step_from m s c.args.input.now (left c.args.words.now) in
    let p = err_from_is_err_and c.from_residual-in_err-print_stop-in-Some.result c.from_residual-in_err-print_stop-in-Some.ensures.1 in
    let same = ap (stop_of m c.args.sources.now) (goes-some c.in_ok-stop.field-0 c.in-Some.stop c.go_on.new.session.state (left c.go_on.new.words) step c.in-Some.is c.in_ok-stop.ensures.goes)
    ∙ ap (λ v. stop_line v c.args.sources.now c.in-Some.stop) (sym (c.signature.ensures ∙ ap (λ (n : Machine). n.signature) c.in_ok-stop.ensures.machine)) in
    rw (p.1, p.2) (second-stopped g.K.Sink.written g.K.Sink.faults _ _ _ (numbered_state m c.args.number s) (stop_line c.signature.result.now c.args.sources.now c.in-Some.stop) (stop_of m c.args.sources.now step) _ _ same c.in_ok-print_state.ensures c.in_err-print_stop-in-Some.ensures)
