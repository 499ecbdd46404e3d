use Rattle.asm_node.specs.Model.{machine_of}
use Rattle.asm_cli.specs.Words.{plan_seen}
use Rattle.asm_cli.proofs.Renamed.{coded_served}
use Rattle.asm_cli.proofs.run.run_in.Goals as goal

pub returns : goal.returns
returns g c =
    coded_served g.S.Shelf.files g.S.Shelf.faults g.K.Sink.written g.K.Sink.faults c.args.shelf.now c.run_settled.new.shelf c.args.sink.now c.run_settled.new.sink c.run_settled.result (plan_seen c.args.run) c.args.sources.now
    c.args.units.now (machine_of c.args.model.now) c.numbers_are_free.ensures.codes c.numbers_are_free.ensures.free c.requires.model c.run_settled.ensures
