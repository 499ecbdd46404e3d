use Rattle.std.proofs.Common.{◌∙◌, Option, sym, subst}
use Rattle.asm_node.specs.Model.{machine_of}
use Rattle.asm_renaming.specs.Coded.{coded_machine}
use Rattle.avalla_command.specs.Acts.{acts_of}
use Rattle.avalla_play.specs.Printed.{play_of}
use Rattle.avalla_prepare.specs.declared.error.ScenarioError.{ScenarioError}
use Rattle.avalla_prepare.specs.Prepared.{Tells, scenario_fault}
use Rattle.asm_cli.specs.Words.{play_plan_seen}
use Rattle.asm_cli.proofs.Played.{coded_play, coded_fault}
use Rattle.asm_cli.proofs.Playing.{prepared_played, prepared_wrong}
use Rattle.asm_cli.proofs.play.play_in.Goals as goal

pub play_prepared-requires-clause-acts : goal.play_prepared-requires-clause-acts
play_prepared-requires-clause-acts g c = c.in-Ok.ensures.sound

pub returns-in-Ok : goal.returns-in-Ok
returns-in-Ok g c =
    prepared_played g.K.Sink.written g.K.Sink.faults c.args.sink.now c.play_prepared.new.sink (play_plan_seen c.args.plan) c.args.raw.now c.args.sources.now c.args.units.now c.play_prepared.result
    (play_of (machine_of c.args.model.now) c.args.sources.now (acts_of c.in-Ok.commands) (play_plan_seen c.args.plan).choices (play_plan_seen c.args.plan).budget)
    (sym (coded_fault c.args.units.now (machine_of c.args.model.now) c.requires.model c.args.raw.now) ∙ c.in-Ok.ensures.faultless)
    (coded_play c.args.units.now (machine_of c.args.model.now) c.requires.model c.numbers_are_free.ensures.codes c.numbers_are_free.ensures.free c.script_numbers_are_free.ensures
    c.args.sources.now c.args.raw.now (acts_of c.in-Ok.commands) c.in-Ok.ensures.acts (play_plan_seen c.args.plan).choices (play_plan_seen c.args.plan).budget)
    c.play_prepared.ensures

pub returns-in-Err : goal.returns-in-Err
returns-in-Err g c =
    prepared_wrong g.K.Sink.written g.K.Sink.faults c.args.sink.now c.refuse_scenario.new.sink (play_plan_seen c.args.plan) c.args.raw.now c.args.sources.now c.args.units.now c.refuse_scenario.result
    (scenario_fault (coded_machine c.args.units.now) 0 c.args.raw.now) c.in-Err.error
    (subst (λ (o : Option ScenarioError). Tells o c.in-Err.error) (coded_fault c.args.units.now (machine_of c.args.model.now) c.requires.model c.args.raw.now) c.in-Err.ensures.fault) c.refuse_scenario.ensures
