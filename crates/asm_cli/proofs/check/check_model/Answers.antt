use Rattle.std.proofs.Common.{List}
use Rattle.asm_source.specs.declared.sources.Source.{Source}
use Rattle.asm_unit.specs.Loading.{units_in}
use Rattle.asm_cli.specs.Answer.{loaded, says_checked}
use Rattle.asm_cli.proofs.Loaded.{err_prefix, fails_from, all_short}
use Rattle.asm_cli.proofs.check.check_model.Goals as goal

pub check_units-requires-clause-known : goal.check_units-requires-clause-known
check_units-requires-clause-known g c = c.in-Ok.ensures.units

pub check_units-requires-clause-short : goal.check_units-requires-clause-short
check_units-requires-clause-short g c = all_short c.new-sources.result c.load_all.new.sources c.new-sources.ensures c.in-Ok.ensures.added

pub returns-clause-prefix : goal.returns-clause-prefix
returns-clause-prefix g c = λ files told.
    err_prefix g.K.Sink.written g.K.Sink.faults c.args.sink.now c.refuse_load.new.sink says_checked (loaded files c.args.model.now) c.load_all.new.sources c.refuse_load.result c.in-Err.error
    (fails_from (λ (s : List Source). units_in files c.args.model.now s) c.new-sources.result c.load_all.new.sources c.in-Err.error c.new-sources.ensures (c.in-Err.ensures.told files told)) c.refuse_load.ensures
