use Rattle.std.proofs.Common.{ap, arith, length}
use Rattle.asm_cli.specs.Plays.{says_scenario, scenario_in}
use Rattle.asm_cli.specs.Words.{play_plan_seen}
use Rattle.asm_cli.proofs.Serving.{serves_then, refuses_served}
use Rattle.asm_cli.proofs.Playing.{short_first}
use Rattle.asm_cli.proofs.play.play_scenario.Goals as goal

pub play_read-requires-clause-few : goal.play_read-requires-clause-few
play_read-requires-clause-few g c = (let none = ap length c.new-sources.ensures in let one = c.in-Ok.ensures.one in omega (arith, none, one))

pub play_read-requires-clause-short : goal.play_read-requires-clause-short
play_read-requires-clause-short g c = short_first c.new-sources.result c.read_scenario.new.sources c.new-sources.ensures c.in-Ok.ensures.added

pub refuse_load-requires : goal.refuse_load-requires
refuse_load-requires g c = record { short = short_first c.new-sources.result c.read_scenario.new.sources c.new-sources.ensures c.in-Err.ensures.added }

pub returns-in-Ok : goal.returns-in-Ok
returns-in-Ok g c =
    serves_then g.S.Shelf.files g.S.Shelf.faults g.K.Sink.written g.K.Sink.faults c.args.shelf.now c.read_scenario.new.shelf c.play_read.new.shelf c.args.sink.now c.play_read.new.sink c.play_read.result c.in-Ok.ensures.files c.in-Ok.ensures.later
    (says_scenario (play_plan_seen c.args.plan)) (λ held. scenario_in held (play_plan_seen c.args.plan).scenario) c.read_scenario.new.sources c.in-Ok.raw c.in-Ok.ensures.told c.play_read.ensures

pub returns-in-Err : goal.returns-in-Err
returns-in-Err g c =
    refuses_served g.S.Shelf.files g.S.Shelf.faults g.K.Sink.written g.K.Sink.faults c.args.shelf.now c.read_scenario.new.shelf c.args.sink.now c.refuse_load.new.sink c.refuse_load.result c.in-Err.ensures.files c.in-Err.ensures.later
    (says_scenario (play_plan_seen c.args.plan)) (λ held. scenario_in held (play_plan_seen c.args.plan).scenario) c.read_scenario.new.sources c.in-Err.error c.in-Err.ensures.told c.in-Err.ensures.failed c.refuse_load.ensures
