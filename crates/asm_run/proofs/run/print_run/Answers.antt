use Rattle.std.proofs.Common.{◌≡◌, sym, ap, subst, ◌∙◌}
use Rattle.std.specs.Prelude.{All, IfOk, Err, Result}
use Rattle.asm_io.specs.Writes.{Writes}
use Rattle.asm_node.specs.declared.stop.Stop.{Stop}
use Rattle.asm_node.specs.declared.stop.Stop.TheVariants.{BadInitial}
use Rattle.asm_node.specs.Machine.{State}
use Rattle.asm_node.specs.Model.{machine_of}
use Rattle.asm_node.specs.Step.{IsInput, initial}
use Rattle.asm_node.specs.Words.{left}
use Rattle.asm_eval.specs.Beginning.{Prevents}
use Rattle.asm_text.specs.Texts.{stop_line}
use Rattle.asm_run.specs.declared.error.OutError.TheVariants.{Write}
use Rattle.asm_run.specs.Printed.{Printed, begun, run_from, run_of}
use Rattle.asm_run.proofs.Runs.{one-written}
use Rattle.asm_run.proofs.run.print_run.Goals as goal

pub print_run_from-requires-clause-inputs : goal.print_run_from-requires-clause-inputs
print_run_from-requires-clause-inputs g c = subst (λ n. All (IsInput n) c.args.inputs.now) (sym c.in-Ok.ensures.machine) c.requires.inputs

pub returns-in-Ok-clause-writes : goal.returns-in-Ok-clause-writes
returns-in-Ok-clause-writes g c =
    let m = machine_of c.args.model.now in
    let sources = c.args.sources.now in
    let words = left c.args.words.now in
    let same : run_from c.in-Ok.session.machine sources 0 c.in-Ok.session.state c.args.inputs.now words c.args.steps ≡ run_of m sources c.args.inputs.now words c.args.steps =
    ap (λ n. run_from n sources 0 c.in-Ok.session.state c.args.inputs.now words c.args.steps) c.in-Ok.ensures.machine
    ∙ sym (ap (λ (o : Result State Stop). begun m sources o (λ s. run_from m sources 0 s c.args.inputs.now words c.args.steps)) c.in-Ok.ensures.begins) in
    subst (λ (q : Printed). Writes g.K.Sink.written g.K.Sink.faults c.args.sink.now c.print_run_from.new.sink q.text Write c.print_run_from.result) same c.print_run_from.ensures.writes

pub returns-in-Ok-clause-end : goal.returns-in-Ok-clause-end
returns-in-Ok-clause-end g c =
    let m = machine_of c.args.model.now in
    let sources = c.args.sources.now in
    let words = left c.args.words.now in
    let same : run_from c.in-Ok.session.machine sources 0 c.in-Ok.session.state c.args.inputs.now words c.args.steps ≡ run_of m sources c.args.inputs.now words c.args.steps =
    ap (λ n. run_from n sources 0 c.in-Ok.session.state c.args.inputs.now words c.args.steps) c.in-Ok.ensures.machine
    ∙ sym (ap (λ (o : Result State Stop). begun m sources o (λ s. run_from m sources 0 s c.args.inputs.now words c.args.steps)) c.in-Ok.ensures.begins) in
    subst (λ (q : Printed). IfOk c.print_run_from.result (λ end. end ≡ q.end)) same c.print_run_from.ensures.end

pub returns-in_ok-print_stop-in-Err-BadInitial-clause-writes : goal.returns-in_ok-print_stop-in-Err-BadInitial-clause-writes
returns-in_ok-print_stop-in-Err-BadInitial-clause-writes g c =
    let m = machine_of c.args.model.now in
    let sources = c.args.sources.now in
    let words = left c.args.words.now in
    let stop : Stop = BadInitial c.in-Err-BadInitial.slot c.in-Err-BadInitial.value in
    let begins : initial m ≡ Err stop = subst (λ e. Prevents e (initial m)) c.in-Err-BadInitial.field-0-is c.in-Err-BadInitial.ensures.begins in
    let same : (run_of m sources c.args.inputs.now words c.args.steps).text ≡ stop_line c.signature.result.now sources stop =
    ap (λ (o : Result State Stop). (begun m sources o (λ s. run_from m sources 0 s c.args.inputs.now words c.args.steps)).text) begins ∙ ap (λ v. stop_line v sources stop) (sym c.signature.ensures) in
    one-written g.K.Sink.written g.K.Sink.faults c.args.sink.now c.print_stop.new.sink (stop_line c.signature.result.now sources stop) (run_of m sources c.args.inputs.now words c.args.steps).text _ _ same c.in_ok-print_stop-in-Err-BadInitial.ensures
