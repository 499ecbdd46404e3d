-- Errors of other crates as a step's and a run's.
use Rattle.asm_fire.specs.declared.error.FireError.{FireError}
use Rattle.asm_fire.specs.declared.error.FireError.TheVariants as fire
use Rattle.asm_io.specs.declared.sink.SinkError.{SinkError}
use Rattle.asm_io.specs.declared.sink.SinkError.TheVariants as sink
use Rattle.asm_run.specs.declared.error.OutError.{OutError}
use Rattle.asm_run.specs.declared.error.OutError.TheVariants.{Write, Memory}
use Rattle.asm_run.specs.declared.error.StepError.{StepError}
use Rattle.asm_run.specs.declared.error.StepError.TheVariants as step

-- a rule's error
abbrev pub step_error_of : FireError → StepError
step_error_of (fire.Stop e) = step.Stop e
step_error_of fire.Memory = step.Memory

-- a sink's error
abbrev pub out_error_of : SinkError → OutError
out_error_of sink.Failed = Write
out_error_of sink.Memory = Memory
