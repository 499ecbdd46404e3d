use Rattle.std.proofs.Common.{◌∙◌, List, subst, arith}
use Rattle.asm_io.specs.Outside.{Files}
use Rattle.asm_unit.specs.Loading.{Fails, Outcome, ended, most_bytes, units_in}
use Rattle.asm_tree.specs.declared.unit.LoadedUnit.{LoadedUnit}
use Rattle.std.specs.Prelude.{ℕ, ◌≡◌}
use Rattle.asm_cli.specs.Plays.{loaded_by, says_loaded}
use Rattle.asm_cli.specs.Words.{play_plan_seen}
use Rattle.asm_cli.proofs.Serving.{serves_end, refuses_served}
use Rattle.asm_cli.proofs.Playing.{loaded_good, short_more}
use Rattle.asm_cli.proofs.play.play_over.Goals as goal

pub play_units-requires-clause-short : goal.play_units-requires-clause-short
play_units-requires-clause-short g c = short_more most_bytes c.args.sources.now c.load_all.new.sources (omega arith) c.requires.short c.in-Ok.ensures.added

pub refuse_load-requires : goal.refuse_load-requires
refuse_load-requires g c = record { short = short_more most_bytes c.args.sources.now c.load_all.new.sources (omega arith) c.requires.short c.in-Err.ensures.added }

pub returns-in-Ok : goal.returns-in-Ok
returns-in-Ok g c =
    serves_end g.S.Shelf.files g.S.Shelf.faults g.K.Sink.written g.K.Sink.faults c.args.shelf.now c.load_all.new.shelf c.args.sink.now c.play_units.new.sink c.play_units.result c.in-Ok.ensures.files c.in-Ok.ensures.later
    (λ _. says_loaded (play_plan_seen c.args.plan) c.args.raw.now) (λ held. loaded_by held (play_plan_seen c.args.plan).scenario c.args.sources.now c.args.raw.now) c.load_all.new.sources c.in-Ok.units
    (λ held told. subst (λ (name : List ℕ). units_in held name c.args.sources.now ≡ ended c.load_all.new.sources c.in-Ok.units) (c.text.ensures ∙ c.requires.named) (c.in-Ok.ensures.told held told))
    (says_loaded (play_plan_seen c.args.plan) c.args.raw.now c.load_all.new.sources c.in-Ok.units) (λ _ t k s. s)
    (loaded_good (play_plan_seen c.args.plan) c.args.raw.now c.load_all.new.sources c.in-Ok.units) c.play_units.ensures

pub returns-in-Err : goal.returns-in-Err
returns-in-Err g c =
    refuses_served g.S.Shelf.files g.S.Shelf.faults g.K.Sink.written g.K.Sink.faults c.args.shelf.now c.load_all.new.shelf c.args.sink.now c.refuse_load.new.sink c.refuse_load.result c.in-Err.ensures.files c.in-Err.ensures.later
    (λ _. says_loaded (play_plan_seen c.args.plan) c.args.raw.now) (λ held. loaded_by held (play_plan_seen c.args.plan).scenario c.args.sources.now c.args.raw.now) c.load_all.new.sources c.in-Err.error
    (λ held told. subst (λ (name : List ℕ). Fails (units_in held name c.args.sources.now) c.load_all.new.sources c.in-Err.error) (c.text.ensures ∙ c.requires.named) (c.in-Err.ensures.told held told))
    c.in-Err.ensures.failed c.refuse_load.ensures
