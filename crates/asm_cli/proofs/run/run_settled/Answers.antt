use Rattle.std.proofs.Common.{ℕ, length, subst}
use Rattle.asm_node.specs.Model.{machine_of}
use Rattle.asm_cli.specs.Answer.{says_given, settings}
use Rattle.asm_cli.specs.Reply.{Replies}
use Rattle.asm_cli.specs.Words.{plan_seen}
use Rattle.asm_cli.proofs.Serving.{serves_end, refuses_served, given_good}
use Rattle.asm_cli.proofs.run.run_settled.Goals as goal

pub returns-in-Ok : goal.returns-in-Ok
returns-in-Ok g c =
    serves_end g.S.Shelf.files g.S.Shelf.faults g.K.Sink.written g.K.Sink.faults c.args.shelf.now c.settings.new.shelf c.args.sink.now c.run_given.new.sink c.run_given.result c.in-Ok.ensures.files c.in-Ok.ensures.later
    (λ _. says_given (plan_seen c.args.run) (machine_of c.args.model.now) (length c.args.sources.now)) (λ held. settings held (plan_seen c.args.run).inputs c.args.sources.now) c.settings.new.sources
    c.in-Ok.raw c.in-Ok.ensures.told (says_given (plan_seen c.args.run) (machine_of c.args.model.now) (length c.args.sources.now) c.settings.new.sources c.in-Ok.raw) (λ _ t k s. s)
    (given_good (plan_seen c.args.run) (machine_of c.args.model.now) (length c.args.sources.now) c.settings.new.sources c.in-Ok.raw)
    (subst (λ (file : ℕ). Replies g.K.Sink.written g.K.Sink.faults c.args.sink.now c.run_given.new.sink (says_given (plan_seen c.args.run) (machine_of c.args.model.now) file c.settings.new.sources c.in-Ok.raw) c.run_given.result) c.len-file.ensures c.run_given.ensures)

pub returns-in-Err : goal.returns-in-Err
returns-in-Err g c =
    refuses_served g.S.Shelf.files g.S.Shelf.faults g.K.Sink.written g.K.Sink.faults c.args.shelf.now c.settings.new.shelf c.args.sink.now c.refuse_load.new.sink c.refuse_load.result c.in-Err.ensures.files c.in-Err.ensures.later
    (λ _. says_given (plan_seen c.args.run) (machine_of c.args.model.now) (length c.args.sources.now)) (λ held. settings held (plan_seen c.args.run).inputs c.args.sources.now) c.settings.new.sources
    c.in-Err.error c.in-Err.ensures.told c.in-Err.ensures.failed c.refuse_load.ensures
