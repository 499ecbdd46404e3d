use Rattle.std.proofs.Common.{◌∙◌, List, sym, subst}
use Rattle.asm_source.specs.declared.sources.Source.{Source}
use Rattle.asm_tree.specs.declared.unit.LoadedUnit.{LoadedUnit}
use Rattle.asm_unit.specs.Loading.{Outcome, units_in}
use Rattle.asm_cli.specs.Exit.{OnCode, OnFault}
use Rattle.asm_cli.specs.Answer.{loaded, Prints, PrintsPart, says_run, says_outcome}
use Rattle.asm_cli.specs.Words.{plan_seen}
use Rattle.asm_cli.proofs.Loaded.{err_prefix, fails_from, all_short, ends_from}
use Rattle.asm_cli.proofs.run.run_model.Goals as goal

pub run_units-requires-clause-short : goal.run_units-requires-clause-short
run_units-requires-clause-short g c = all_short c.new-sources.result c.load_all.new.sources c.new-sources.ensures c.in-Ok.ensures.added

pub returns-in-Ok-clause-answer : goal.returns-in-Ok-clause-answer
returns-in-Ok-clause-answer g c = λ files told.
    subst (λ (o : Outcome (List LoadedUnit)). OnCode c.run_units.result (Prints (g.K.Sink.written c.args.sink.now) (g.K.Sink.written c.run_units.new.sink) (says_outcome (says_run (plan_seen c.args.run) files) o)))
    (sym (ends_from (λ (s : List Source). units_in files c.args.run.model.now s) c.new-sources.result c.load_all.new.sources c.in-Ok.units c.new-sources.ensures (c.in-Ok.ensures.told files told)))
    (c.run_units.ensures.answer files (c.in-Ok.ensures.files ∙ told))

pub returns-in-Ok-clause-prefix : goal.returns-in-Ok-clause-prefix
returns-in-Ok-clause-prefix g c = λ files told.
    subst (λ (o : Outcome (List LoadedUnit)). OnFault c.run_units.result (PrintsPart (g.K.Sink.written c.args.sink.now) (g.K.Sink.written c.run_units.new.sink) (says_outcome (says_run (plan_seen c.args.run) files) o)))
    (sym (ends_from (λ (s : List Source). units_in files c.args.run.model.now s) c.new-sources.result c.load_all.new.sources c.in-Ok.units c.new-sources.ensures (c.in-Ok.ensures.told files told)))
    (c.run_units.ensures.prefix files (c.in-Ok.ensures.files ∙ told))

pub returns-in-Err-clause-prefix : goal.returns-in-Err-clause-prefix
returns-in-Err-clause-prefix g c = λ files told.
    err_prefix g.K.Sink.written g.K.Sink.faults c.args.sink.now c.refuse_load.new.sink (says_run (plan_seen c.args.run) files) (loaded files c.args.run.model.now) c.load_all.new.sources c.refuse_load.result c.in-Err.error
    (fails_from (λ (s : List Source). units_in files c.args.run.model.now s) c.new-sources.result c.load_all.new.sources c.in-Err.error c.new-sources.ensures (c.in-Err.ensures.told files told)) c.refuse_load.ensures
