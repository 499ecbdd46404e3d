use Rattle.std.proofs.Common.{subst}
use Rattle.asm_faults.specs.Check.{model_fault}
use Rattle.asm_faults.specs.declared.error.ModelError.{ModelError}
use Rattle.asm_resolve.specs.Resolved.{Tells}
use Rattle.asm_cli.proofs.Checking.{faultless_said, fault_said}
use Rattle.asm_cli.proofs.check.check_units.Goals as goal

pub returns-in-Ok : goal.returns-in-Ok
returns-in-Ok g c = faultless_said g.K.Sink.written g.K.Sink.faults c.args.sink.now c.say_counts.new.sink c.args.sources.now c.args.units.now c.say_counts.result c.in-Ok.ensures.faultless c.say_counts.ensures

pub returns-in-Err-Fault : goal.returns-in-Err-Fault
returns-in-Err-Fault g c =
    fault_said g.K.Sink.written g.K.Sink.faults c.args.sink.now c.refuse_model.new.sink c.args.sources.now c.args.units.now c.refuse_model.result
    c.in-Err-Fault.kind c.in-Err-Fault.name c.in-Err-Fault.place
    (subst (λ (e : ModelError). Tells c.args.units.now (model_fault c.args.units.now) e) c.in-Err-Fault.field-0-is c.in-Err-Fault.ensures.fault) c.refuse_model.ensures
