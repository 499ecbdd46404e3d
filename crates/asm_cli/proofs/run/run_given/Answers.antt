use Rattle.std.proofs.Common.{subst}
use Rattle.asm_bind.specs.declared.error.BadSet.{BadSet}
use Rattle.asm_bind.specs.Given.{Tells, inputs_of}
use Rattle.asm_node.specs.Model.{machine_of}
use Rattle.asm_cli.specs.Words.{plan_seen}
use Rattle.asm_cli.proofs.Serving.{bad_said}
use Rattle.asm_cli.proofs.run.run_given.Goals as goal

pub returns-in-Err-At : goal.returns-in-Err-At
returns-in-Err-At g c =
    bad_said g.K.Sink.written g.K.Sink.faults c.args.sink.now c.refuse_set.new.sink c.refuse_set.result (plan_seen c.args.run) (machine_of c.args.model.now) c.args.file c.args.sources.now c.args.raw.now c.in-Err-At.at c.in-Err-At.name
    (subst (λ (e : BadSet). Tells e (inputs_of (machine_of c.args.model.now).signature c.args.raw.now)) c.in-Err-At.field-0-is c.in-Err-At.ensures.binds) c.refuse_set.ensures
