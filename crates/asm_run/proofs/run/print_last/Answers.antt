use Rattle.std.proofs.Common.{◌∙◌, ap, sym}
use Rattle.std.proofs.lemmas.Result.{err_from_is_err_and}
use Rattle.std.specs.Prelude.{codes}
use Rattle.asm_io.proofs.Printing.{writes_stopped}
use Rattle.asm_node.specs.declared.stop.Stop.TheVariants.{Invariant}
use Rattle.asm_node.specs.Step.{broken}
use Rattle.asm_text.specs.Texts.{line, stop_line}
use Rattle.asm_run.specs.declared.error.OutError.TheVariants.{Write}
use Rattle.asm_run.specs.Printed.{ended, numbered_state, unless_broken}
use Rattle.asm_run.proofs.Runs.{both-written, second-stopped}
use Rattle.asm_run.proofs.run.print_last.Goals as goal

pub returns-in_err-print_state-clause-writes : goal.returns-in_err-print_state-clause-writes
returns-in_err-print_state-clause-writes g c =
    let m = c.args.session.now.machine in
    let s = c.args.session.now.state in
    let p = err_from_is_err_and c.from_residual.result c.from_residual.ensures.1 in
    rw (p.1, p.2) (writes_stopped g.K.Sink.written g.K.Sink.faults c.args.sink.now c.print_state.new.sink (numbered_state m c.args.number s) (unless_broken m c.args.sources.now (broken m s) ended).text Write _ c.in_err-print_state.ensures)

pub returns-in_err-print_stop-in-Some-clause-writes : goal.returns-in_err-print_stop-in-Some-clause-writes
returns-in_err-print_stop-in-Some-clause-writes g c =
    let m = c.args.session.now.machine in
    let s = c.args.session.now.state in
    let p = err_from_is_err_and c.from_residual-in_err-print_stop-in-Some.result c.from_residual-in_err-print_stop-in-Some.ensures.1 in
    let same = ap (λ b. (unless_broken m c.args.sources.now b ended).text) (sym c.stopped.ensures.broken ∙ c.in-Some.is) ∙ ap (λ v. stop_line v c.args.sources.now (Invariant c.in-Some.number)) (sym c.signature.ensures) in
    rw (p.1, p.2) (second-stopped g.K.Sink.written g.K.Sink.faults _ _ _ (numbered_state m c.args.number s) (stop_line c.signature.result.now c.args.sources.now (Invariant c.in-Some.number)) (unless_broken m c.args.sources.now (broken m s) ended).text _ _ same c.in_ok-print_state.ensures c.in_err-print_stop-in-Some.ensures)

pub returns-in_err-print_end-in-None-clause-writes : goal.returns-in_err-print_end-in-None-clause-writes
returns-in_err-print_end-in-None-clause-writes g c =
    let m = c.args.session.now.machine in
    let s = c.args.session.now.state in
    let p = err_from_is_err_and c.from_residual-in_err-print_end-in-None.result c.from_residual-in_err-print_end-in-None.ensures.1 in
    let same = ap (λ b. (unless_broken m c.args.sources.now b ended).text) (sym c.stopped.ensures.broken ∙ c.in-None.is) in
    rw (p.1, p.2) (second-stopped g.K.Sink.written g.K.Sink.faults _ _ _ (numbered_state m c.args.number s) (line (codes "end")) (unless_broken m c.args.sources.now (broken m s) ended).text _ _ same c.in_ok-print_state.ensures c.in_err-print_end-in-None.ensures)

pub returns-in_ok-print_stop-in-Some-clause-writes : goal.returns-in_ok-print_stop-in-Some-clause-writes
returns-in_ok-print_stop-in-Some-clause-writes g c =
    let m = c.args.session.now.machine in
    let s = c.args.session.now.state in
    let same = ap (λ b. (unless_broken m c.args.sources.now b ended).text) (sym c.stopped.ensures.broken ∙ c.in-Some.is) ∙ ap (λ v. stop_line v c.args.sources.now (Invariant c.in-Some.number)) (sym c.signature.ensures) in
    both-written g.K.Sink.written g.K.Sink.faults _ _ _ (numbered_state m c.args.number s) (stop_line c.signature.result.now c.args.sources.now (Invariant c.in-Some.number)) (unless_broken m c.args.sources.now (broken m s) ended).text _ _ _ same c.in_ok-print_state.ensures c.in_ok-print_stop-in-Some.ensures
