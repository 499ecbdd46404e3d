use Rattle.std.proofs.Common.{sym, subst}
use Rattle.asm_cli.specs.declared.command.Task.{Task}
use Rattle.asm_cli.specs.Exit.{OnCode, OnFault}
use Rattle.asm_cli.specs.Answer.{Prints, PrintsPart, says_task}
use Rattle.asm_cli.specs.Words.{seen}
use Rattle.asm_cli.proofs.top.serve.Goals as goal

pub returns-in-Format-clause-answer : goal.returns-in-Format-clause-answer
returns-in-Format-clause-answer g c = λ files told.
    subst (λ (t : Task). OnCode c.format_file.result (Prints (g.K.Sink.written c.args.sink.now) (g.K.Sink.written c.format_file.new.sink) (says_task (seen t) files))) (sym c.in-Format.is) (c.format_file.ensures.answer files told)

pub returns-in-Format-clause-prefix : goal.returns-in-Format-clause-prefix
returns-in-Format-clause-prefix g c = λ files told.
    subst (λ (t : Task). OnFault c.format_file.result (PrintsPart (g.K.Sink.written c.args.sink.now) (g.K.Sink.written c.format_file.new.sink) (says_task (seen t) files))) (sym c.in-Format.is) (c.format_file.ensures.prefix files told)

pub returns-in-Check-clause-answer : goal.returns-in-Check-clause-answer
returns-in-Check-clause-answer g c = λ files told.
    subst (λ (t : Task). OnCode c.check_model.result (Prints (g.K.Sink.written c.args.sink.now) (g.K.Sink.written c.check_model.new.sink) (says_task (seen t) files))) (sym c.in-Check.is) (c.check_model.ensures.answer files told)

pub returns-in-Check-clause-prefix : goal.returns-in-Check-clause-prefix
returns-in-Check-clause-prefix g c = λ files told.
    subst (λ (t : Task). OnFault c.check_model.result (PrintsPart (g.K.Sink.written c.args.sink.now) (g.K.Sink.written c.check_model.new.sink) (says_task (seen t) files))) (sym c.in-Check.is) (c.check_model.ensures.prefix files told)

pub returns-in-Play-clause-answer : goal.returns-in-Play-clause-answer
returns-in-Play-clause-answer g c = λ files told.
    subst (λ (t : Task). OnCode c.play_scenario.result (Prints (g.K.Sink.written c.args.sink.now) (g.K.Sink.written c.play_scenario.new.sink) (says_task (seen t) files))) (sym c.in-Play.is) (c.play_scenario.ensures.answer files told)

pub returns-in-Play-clause-prefix : goal.returns-in-Play-clause-prefix
returns-in-Play-clause-prefix g c = λ files told.
    subst (λ (t : Task). OnFault c.play_scenario.result (PrintsPart (g.K.Sink.written c.args.sink.now) (g.K.Sink.written c.play_scenario.new.sink) (says_task (seen t) files))) (sym c.in-Play.is) (c.play_scenario.ensures.prefix files told)
