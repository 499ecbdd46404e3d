use Rattle.std.proofs.Common.{sym, ap, refl}
use Rattle.std.proofs.lemmas.Result.{err_from_is_err_and}
use Rattle.std.specs.Prelude.{codes}
use Rattle.asm_node.specs.Model.{machine_of}
use Rattle.asm_node.specs.Words.{left}
use Rattle.asm_run.proofs.Runs.{both-written, one-written, second-stopped}
use Rattle.asm_text.specs.Texts.{line}
use Rattle.avalla_command.specs.Acts.{acts_of}
use Rattle.avalla_play.specs.Moves.{Move, all_acted}
use Rattle.avalla_play.specs.Printed.{passed_unless}
use Rattle.avalla_play.specs.Standing.{point_of}
use Rattle.avalla_play.proofs.Landing.{finished-cut, lands-none, lands-some, last_line}
use Rattle.avalla_play.proofs.Writing.{first-stopped, same-text}
use Rattle.avalla_play.proofs.playing.play_on.Goals as goal

pub returns-in_err-end-clause-writes : goal.returns-in_err-end-clause-writes
returns-in_err-end-clause-writes g c =
    let move : Move = all_acted (machine_of c.args.context.now.model.now) c.args.context.now.sources.now c.args.context.now.budget (acts_of c.args.commands.now) (point_of c.args.stage.now (left c.args.words.now)) in
    let p = err_from_is_err_and c.from_residual.result c.from_residual.ensures.1 in
    rw (p.1, p.2) (first-stopped g.K.Sink.written g.K.Sink.faults c.args.sink.now c.act_all.new.sink move.text (last_line move.to) _ _ (finished-cut move) c.in_err-end.ensures.writes)

pub returns-in-Some-clause-writes : goal.returns-in-Some-clause-writes
returns-in-Some-clause-writes g c =
    let m = machine_of c.args.context.now.model.now in
    let move : Move = all_acted m c.args.context.now.sources.now c.args.context.now.budget (acts_of c.args.commands.now) (point_of c.args.stage.now (left c.args.words.now)) in
    let ended = lands-some m c.act_all.new.stage (left c.act_all.new.words) move.to c.in_ok-end.field-0 c.in-Some.end c.in-Some.is c.in_ok-end.ensures.lands in
    one-written g.K.Sink.written g.K.Sink.faults c.args.sink.now c.act_all.new.sink _ _ _ _ (ap (λ to. (passed_unless move.text to).text) ended) c.in_ok-end.ensures.writes

pub returns-in-Some-clause-end : goal.returns-in-Some-clause-end
returns-in-Some-clause-end g c =
    let m = machine_of c.args.context.now.model.now in
    let move : Move = all_acted m c.args.context.now.sources.now c.args.context.now.budget (acts_of c.args.commands.now) (point_of c.args.stage.now (left c.args.words.now)) in
    let ended = lands-some m c.act_all.new.stage (left c.act_all.new.words) move.to c.in_ok-end.field-0 c.in-Some.end c.in-Some.is c.in_ok-end.ensures.lands in
    sym (ap (λ to. (passed_unless move.text to).end) ended)

pub returns-in_err-tell_passed-in-None-clause-writes : goal.returns-in_err-tell_passed-in-None-clause-writes
returns-in_err-tell_passed-in-None-clause-writes g c =
    let m = machine_of c.args.context.now.model.now in
    let move : Move = all_acted m c.args.context.now.sources.now c.args.context.now.budget (acts_of c.args.commands.now) (point_of c.args.stage.now (left c.args.words.now)) in
    let reached = lands-none m c.act_all.new.stage (left c.act_all.new.words) move.to c.in_ok-end.field-0 c.in-None.is c.in_ok-end.ensures.lands in
    let p = err_from_is_err_and c.from_residual-in_err-tell_passed-in-None.result c.from_residual-in_err-tell_passed-in-None.ensures.1 in
    rw (p.1, p.2) (same-text g.K.Sink.written g.K.Sink.faults c.args.sink.now c.tell_passed.new.sink _ _ _ (sym (ap (λ to. (passed_unless move.text to).text) reached.leads))
    (second-stopped g.K.Sink.written g.K.Sink.faults _ _ _ move.text (line (codes "passed")) (line (codes "passed")) _ _ refl c.in_ok-end.ensures.writes c.in_err-tell_passed-in-None.ensures))

pub returns-in_ok-tell_passed-in-None-clause-writes : goal.returns-in_ok-tell_passed-in-None-clause-writes
returns-in_ok-tell_passed-in-None-clause-writes g c =
    let m = machine_of c.args.context.now.model.now in
    let move : Move = all_acted m c.args.context.now.sources.now c.args.context.now.budget (acts_of c.args.commands.now) (point_of c.args.stage.now (left c.args.words.now)) in
    let reached = lands-none m c.act_all.new.stage (left c.act_all.new.words) move.to c.in_ok-end.field-0 c.in-None.is c.in_ok-end.ensures.lands in
    same-text g.K.Sink.written g.K.Sink.faults c.args.sink.now c.tell_passed.new.sink _ _ _ (sym (ap (λ to. (passed_unless move.text to).text) reached.leads))
    (both-written g.K.Sink.written g.K.Sink.faults _ _ _ move.text (line (codes "passed")) (line (codes "passed")) _ _ _ refl c.in_ok-end.ensures.writes c.in_ok-tell_passed-in-None.ensures)

pub returns-in_ok-tell_passed-in-None-clause-end : goal.returns-in_ok-tell_passed-in-None-clause-end
returns-in_ok-tell_passed-in-None-clause-end g c =
    let m = machine_of c.args.context.now.model.now in
    let move : Move = all_acted m c.args.context.now.sources.now c.args.context.now.budget (acts_of c.args.commands.now) (point_of c.args.stage.now (left c.args.words.now)) in
    let reached = lands-none m c.act_all.new.stage (left c.act_all.new.words) move.to c.in_ok-end.field-0 c.in-None.is c.in_ok-end.ensures.lands in
    sym (ap (λ to. (passed_unless move.text to).end) reached.leads)

pub returns-in-Some-clause-words : goal.returns-in-Some-clause-words
returns-in-Some-clause-words g c =
    let m = machine_of c.args.context.now.model.now in
    let move : Move = all_acted m c.args.context.now.sources.now c.args.context.now.budget (acts_of c.args.commands.now) (point_of c.args.stage.now (left c.args.words.now)) in
    let ended = lands-some m c.act_all.new.stage (left c.act_all.new.words) move.to c.in_ok-end.field-0 c.in-Some.end c.in-Some.is c.in_ok-end.ensures.lands in
    sym (ap (λ to. (passed_unless move.text to).words) ended)

pub returns-in_ok-tell_passed-in-None-clause-words : goal.returns-in_ok-tell_passed-in-None-clause-words
returns-in_ok-tell_passed-in-None-clause-words g c =
    let m = machine_of c.args.context.now.model.now in
    let move : Move = all_acted m c.args.context.now.sources.now c.args.context.now.budget (acts_of c.args.commands.now) (point_of c.args.stage.now (left c.args.words.now)) in
    let reached = lands-none m c.act_all.new.stage (left c.act_all.new.words) move.to c.in_ok-end.field-0 c.in-None.is c.in_ok-end.ensures.lands in
    sym (ap (λ to. (passed_unless move.text to).words) reached.leads)
