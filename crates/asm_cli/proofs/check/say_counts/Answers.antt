use Rattle.asm_cli.specs.Answer.{Says}
use Rattle.asm_cli.specs.Counts.{counts_of, counts_text}
use Rattle.asm_cli.proofs.Checking.{nothing_said}
use Rattle.asm_cli.proofs.check.say_counts.Goals as goal

pub returns-in-Err : goal.returns-in-Err
returns-in-Err g c = nothing_said g.K.Sink.written g.K.Sink.faults c.args.sink.now (Says (counts_text (counts_of c.args.units.now)) 0)
