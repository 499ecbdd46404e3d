use Rattle.std.proofs.Common.{◌≡◌, List, sym, ap, subst, ◌∙◌}
use Rattle.std.proofs.lemmas.Result.{err_from_is_err_and}
use Rattle.std.specs.Prelude.{All, Err, IfOk, Result}
use Rattle.std.specs.declared.alloc.Global.{Global}
use Rattle.std.specs.declared.rc.Rc.{Rc}
use Rattle.asm_eval.specs.Beginning.{Prevents}
use Rattle.asm_io.specs.Writes.{Writes}
use Rattle.asm_node.specs.declared.stop.Stop.{Stop}
use Rattle.asm_node.specs.declared.stop.Stop.TheVariants.{BadInitial}
use Rattle.asm_node.specs.Machine.{State}
use Rattle.asm_node.specs.Model.{machine_of}
use Rattle.asm_node.specs.Step.{initial}
use Rattle.asm_node.specs.Words.{left}
use Rattle.asm_run.specs.declared.error.OutError.TheVariants.{Write}
use Rattle.asm_run.proofs.Runs.{one-written}
use Rattle.asm_text.specs.Texts.{stop_line}
use Rattle.avalla_command.specs.declared.command.Command.{Command}
use Rattle.avalla_play.specs.declared.playing.Played.TheVariants.{Stopped}
use Rattle.avalla_command.specs.Acts.{IsAct, acts_of}
use Rattle.avalla_play.specs.Printed.{Printed, begun, finished, first_point, from_start, play_of}
use Rattle.avalla_play.proofs.Beginning.{same-stop}
use Rattle.avalla_play.proofs.Writing.{one-stopped}
use Rattle.avalla_play.proofs.playing.play.Goals as goal

pub play_from-requires-clause-acts : goal.play_from-requires-clause-acts
play_from-requires-clause-acts g c = subst (λ (commands : List (Rc Command Global)). All (IsAct (machine_of c.args.model.now)) (acts_of commands)) (sym c.slice.ensures) c.requires.acts

pub returns-in-Ok-clause-writes : goal.returns-in-Ok-clause-writes
returns-in-Ok-clause-writes g c =
    let m = machine_of c.args.model.now in
    let sources = c.args.sources.now in
    let words = left c.args.words.now in
    let whole : List (Rc Command Global) → State → Printed = λ commands s. finished (from_start m sources c.args.budget (acts_of commands) (first_point s words)) in
    let same : whole c.slice.result.now c.in-Ok.session.state ≡ play_of m sources (acts_of c.args.play.now) words c.args.budget =
    ap (λ commands. whole commands c.in-Ok.session.state) c.slice.ensures ∙ sym (ap (λ (o : Result State Stop). begun m sources words o (whole c.args.play.now)) c.in-Ok.ensures.begins) in
    subst (λ (q : Printed). Writes g.K.Sink.written g.K.Sink.faults c.args.sink.now c.play_from.new.sink q.text Write c.play_from.result) same c.play_from.ensures.writes

pub returns-in-Ok-clause-end : goal.returns-in-Ok-clause-end
returns-in-Ok-clause-end g c =
    let m = machine_of c.args.model.now in
    let sources = c.args.sources.now in
    let words = left c.args.words.now in
    let whole : List (Rc Command Global) → State → Printed = λ commands s. finished (from_start m sources c.args.budget (acts_of commands) (first_point s words)) in
    let same : whole c.slice.result.now c.in-Ok.session.state ≡ play_of m sources (acts_of c.args.play.now) words c.args.budget =
    ap (λ commands. whole commands c.in-Ok.session.state) c.slice.ensures ∙ sym (ap (λ (o : Result State Stop). begun m sources words o (whole c.args.play.now)) c.in-Ok.ensures.begins) in
    subst (λ (q : Printed). IfOk c.play_from.result (λ end. end ≡ q.end)) same c.play_from.ensures.end

pub returns-in-Ok-clause-words : goal.returns-in-Ok-clause-words
returns-in-Ok-clause-words g c =
    let m = machine_of c.args.model.now in
    let sources = c.args.sources.now in
    let words = left c.args.words.now in
    let whole : List (Rc Command Global) → State → Printed = λ commands s. finished (from_start m sources c.args.budget (acts_of commands) (first_point s words)) in
    let same : whole c.slice.result.now c.in-Ok.session.state ≡ play_of m sources (acts_of c.args.play.now) words c.args.budget =
    ap (λ commands. whole commands c.in-Ok.session.state) c.slice.ensures ∙ sym (ap (λ (o : Result State Stop). begun m sources words o (whole c.args.play.now)) c.in-Ok.ensures.begins) in
    subst (λ (q : Printed). IfOk c.play_from.result (λ _. left c.play_from.new.words ≡ q.words)) same c.play_from.ensures.words

pub returns-in_err-print_stop-in-Err-BadInitial-clause-writes : goal.returns-in_err-print_stop-in-Err-BadInitial-clause-writes
returns-in_err-print_stop-in-Err-BadInitial-clause-writes g c =
    let m = machine_of c.args.model.now in
    let sources = c.args.sources.now in
    let words = left c.args.words.now in
    let stop : Stop = BadInitial c.in-Err-BadInitial.slot c.in-Err-BadInitial.value in
    let begins : initial m ≡ Err stop = subst (λ e. Prevents e (initial m)) c.in-Err-BadInitial.field-0-is c.in-Err-BadInitial.ensures.begins in
    let same = ap (λ (o : Result State Stop). (begun m sources words o (λ s. finished (from_start m sources c.args.budget (acts_of c.args.play.now) (first_point s words)))).text) begins ∙ ap (λ v. stop_line v sources stop) (sym c.signature.ensures)
    ∙ ap (stop_line c.signature.result.now sources) (sym (same-stop _ _ _ _ c.in-Err-BadInitial.slot-is c.in-Err-BadInitial.value-is)) in
    let p = err_from_is_err_and c.from_residual.result c.from_residual.ensures.1 in
    rw (p.1, p.2) (one-stopped g.K.Sink.written g.K.Sink.faults c.args.sink.now c.print_stop.new.sink _ _ _ (sym same) c.in_err-print_stop-in-Err-BadInitial.ensures)

pub returns-in_ok-print_stop-in-Err-BadInitial-clause-writes : goal.returns-in_ok-print_stop-in-Err-BadInitial-clause-writes
returns-in_ok-print_stop-in-Err-BadInitial-clause-writes g c =
    let m = machine_of c.args.model.now in
    let sources = c.args.sources.now in
    let words = left c.args.words.now in
    let stop : Stop = BadInitial c.in-Err-BadInitial.slot c.in-Err-BadInitial.value in
    let begins : initial m ≡ Err stop = subst (λ e. Prevents e (initial m)) c.in-Err-BadInitial.field-0-is c.in-Err-BadInitial.ensures.begins in
    let same = ap (λ (o : Result State Stop). (begun m sources words o (λ s. finished (from_start m sources c.args.budget (acts_of c.args.play.now) (first_point s words)))).text) begins ∙ ap (λ v. stop_line v sources stop) (sym c.signature.ensures)
    ∙ ap (stop_line c.signature.result.now sources) (sym (same-stop _ _ _ _ c.in-Err-BadInitial.slot-is c.in-Err-BadInitial.value-is)) in
    one-written g.K.Sink.written g.K.Sink.faults c.args.sink.now c.print_stop.new.sink _ _ _ _ same c.in_ok-print_stop-in-Err-BadInitial.ensures

pub returns-in_ok-print_stop-in-Err-BadInitial-clause-end : goal.returns-in_ok-print_stop-in-Err-BadInitial-clause-end
returns-in_ok-print_stop-in-Err-BadInitial-clause-end g c =
    let m = machine_of c.args.model.now in
    let sources = c.args.sources.now in
    let words = left c.args.words.now in
    let stop : Stop = BadInitial c.in-Err-BadInitial.slot c.in-Err-BadInitial.value in
    let begins : initial m ≡ Err stop = subst (λ e. Prevents e (initial m)) c.in-Err-BadInitial.field-0-is c.in-Err-BadInitial.ensures.begins in
    sym (ap (λ (o : Result State Stop). (begun m sources words o (λ s. finished (from_start m sources c.args.budget (acts_of c.args.play.now) (first_point s words)))).end) begins
    ∙ ap Stopped (sym (same-stop _ _ _ _ c.in-Err-BadInitial.slot-is c.in-Err-BadInitial.value-is)))

pub returns-in_ok-print_stop-in-Err-BadInitial-clause-words : goal.returns-in_ok-print_stop-in-Err-BadInitial-clause-words
returns-in_ok-print_stop-in-Err-BadInitial-clause-words g c =
    let m = machine_of c.args.model.now in
    let sources = c.args.sources.now in
    let words = left c.args.words.now in
    let stop : Stop = BadInitial c.in-Err-BadInitial.slot c.in-Err-BadInitial.value in
    let begins : initial m ≡ Err stop = subst (λ e. Prevents e (initial m)) c.in-Err-BadInitial.field-0-is c.in-Err-BadInitial.ensures.begins in
    sym (ap (λ (o : Result State Stop). (begun m sources words o (λ s. finished (from_start m sources c.args.budget (acts_of c.args.play.now) (first_point s words)))).words) begins)
