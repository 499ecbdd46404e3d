use Rattle.std.proofs.Common.{◌≡◌, ◌++◌, Some, sym, ap, ◌∙◌}
use Rattle.std.proofs.lemmas.Result.{err_from_is_err_and}
use Rattle.asm_node.specs.Model.{machine_of}
use Rattle.asm_node.specs.Step.{broken}
use Rattle.asm_run.specs.Printed.{numbered_state}
use Rattle.avalla_play.specs.Standing.{told}
use Rattle.avalla_play.proofs.Writing.{first-stopped, then-last}
use Rattle.avalla_play.proofs.telling.tell_state.Goals as goal

pub returns-in_err-print_state-clause-writes : goal.returns-in_err-print_state-clause-writes
returns-in_err-print_state-clause-writes g c =
    let m = machine_of c.args.context.now.model.now in
    let s = c.args.stage.now in
    let line = told m c.args.context.now.sources.now (broken m s.session.state) in
    let same = ap (λ n. numbered_state n s.number s.session.state ++ line) (sym c.requires.machine) in
    let p = err_from_is_err_and c.from_residual.result c.from_residual.ensures.1 in
    rw (p.1, p.2) (first-stopped g.K.Sink.written g.K.Sink.faults c.args.sink.now c.print_state.new.sink (numbered_state s.session.machine s.number s.session.state) line _ _ same c.in_err-print_state.ensures)

pub returns-in-Some-clause-writes : goal.returns-in-Some-clause-writes
returns-in-Some-clause-writes g c =
    let m = machine_of c.args.context.now.model.now in
    let sources = c.args.context.now.sources.now in
    let s = c.args.stage.now in
    let first = numbered_state s.session.machine s.number s.session.state in
    let number : broken m s.session.state ≡ Some c.in-Some.number = ap (λ n. broken n s.session.state) (sym c.requires.machine) ∙ sym c.stopped.ensures.broken ∙ c.in-Some.is in
    let same = ap (λ n. numbered_state n s.number s.session.state ++ told m sources (broken m s.session.state)) (sym c.requires.machine) ∙ ap (λ b. first ++ told m sources b) number in
    then-last g.K.Sink.written g.K.Sink.faults c.args.sink.now c.print_state.new.sink c.stop_by.new.sink first (told m sources (Some c.in-Some.number)) _ _ c.stop_by.result same c.in_ok-print_state.ensures c.stop_by.ensures.writes
