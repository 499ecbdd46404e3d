use Rattle.std.proofs.Common.{subst, refl, arith}
use Rattle.asm_faults.specs.Check.{model_fault}
use Rattle.asm_faults.specs.declared.error.ModelError.{ModelError}
use Rattle.asm_resolve.specs.Resolved.{Tells}
use Rattle.asm_cli.specs.Words.{plan_seen}
use Rattle.asm_cli.proofs.Serving.{sound_served, fault_served}
use Rattle.asm_cli.proofs.run.run_units.Goals as goal

pub returns-in-Ok : goal.returns-in-Ok
returns-in-Ok g c =
    sound_served g.S.Shelf.files g.S.Shelf.faults g.K.Sink.written g.K.Sink.faults c.args.shelf.now c.run_in.new.shelf c.args.sink.now c.run_in.new.sink c.run_in.result (plan_seen c.args.run) c.args.sources.now c.args.units.now c.in-Ok.ensures.faultless c.run_in.ensures

pub returns-in-Err-Fault : goal.returns-in-Err-Fault
returns-in-Err-Fault g c =
    fault_served g.S.Shelf.files g.S.Shelf.faults g.K.Sink.written g.K.Sink.faults c.args.shelf.now c.args.shelf.now c.args.sink.now c.refuse_model.new.sink c.refuse_model.result (plan_seen c.args.run) c.args.sources.now c.args.units.now
    c.in-Err-Fault.kind c.in-Err-Fault.name c.in-Err-Fault.place
    (subst (λ (e : ModelError). Tells c.args.units.now (model_fault c.args.units.now) e) c.in-Err-Fault.field-0-is c.in-Err-Fault.ensures.fault) refl (omega arith) c.refuse_model.ensures
