use Rattle.std.proofs.Common.{List}
use Rattle.asm_source.specs.declared.sources.Source.{Source}
use Rattle.asm_unit.specs.Loading.{unit_in}
use Rattle.asm_cli.specs.Answer.{alone, says_canonical}
use Rattle.asm_cli.proofs.Loaded.{err_prefix, fails_from}
use Rattle.asm_cli.proofs.format.format_file.Goals as goal

pub returns-clause-prefix : goal.returns-clause-prefix
returns-clause-prefix g c = λ files told.
    err_prefix g.K.Sink.written g.K.Sink.faults c.args.sink.now c.refuse_load.new.sink says_canonical (alone files c.args.model.now) c.load_unit.new.sources c.refuse_load.result c.in-Err.error
    (fails_from (λ (s : List Source). unit_in files c.args.model.now s) c.new-sources.result c.load_unit.new.sources c.in-Err.error c.new-sources.ensures (c.in-Err.ensures.told files told)) c.refuse_load.ensures
