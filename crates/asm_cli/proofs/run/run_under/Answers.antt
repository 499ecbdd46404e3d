use Rattle.std.proofs.Common.{ℕ, List, ap, sym}
use Rattle.asm_node.specs.Model.{machine_of}
use Rattle.asm_node.specs.Words.{left}
use Rattle.asm_run.specs.Printed.{run_of}
use Rattle.asm_cli.specs.Answer.{end_code}
use Rattle.asm_cli.proofs.Serving.{run_said}
use Rattle.asm_cli.proofs.run.run_under.Goals as goal

pub returns-in-Ok-Done : goal.returns-in-Ok-Done
returns-in-Ok-Done g c =
    run_said g.K.Sink.written g.K.Sink.faults c.args.sink.now c.print_run.new.sink _ _ c.in-Ok-Done.field-0 0 c.in-Ok-Done.ensures.writes c.in-Ok-Done.ensures.end
    (ap (λ (ws : List ℕ × ℕ). run_of (machine_of c.args.model.now) c.args.sources.now c.args.inputs.now (left ws) c.args.steps) c.of-words.ensures) (sym (ap end_code c.in-Ok-Done.field-0-is))

pub returns-in-Ok-Stopped : goal.returns-in-Ok-Stopped
returns-in-Ok-Stopped g c =
    run_said g.K.Sink.written g.K.Sink.faults c.args.sink.now c.print_run.new.sink _ _ c.in-Ok-Stopped.field-0 4 c.in-Ok-Stopped.ensures.writes c.in-Ok-Stopped.ensures.end
    (ap (λ (ws : List ℕ × ℕ). run_of (machine_of c.args.model.now) c.args.sources.now c.args.inputs.now (left ws) c.args.steps) c.of-words.ensures) (sym (ap end_code c.in-Ok-Stopped.field-0-is))
