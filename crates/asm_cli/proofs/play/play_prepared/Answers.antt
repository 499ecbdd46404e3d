use Rattle.std.proofs.Common.{ℕ, List, ap, sym}
use Rattle.asm_node.specs.Model.{machine_of}
use Rattle.asm_node.specs.Words.{left}
use Rattle.avalla_command.specs.Acts.{acts_of}
use Rattle.avalla_play.specs.Printed.{play_of}
use Rattle.asm_cli.specs.Plays.{end_code}
use Rattle.asm_cli.proofs.Playing.{play_said}
use Rattle.asm_cli.proofs.play.play_prepared.Goals as goal

pub returns-in-Ok-Passed : goal.returns-in-Ok-Passed
returns-in-Ok-Passed g c =
    play_said g.K.Sink.written g.K.Sink.faults c.args.sink.now c.play.new.sink _ _ c.in-Ok-Passed.field-0 0 c.in-Ok-Passed.ensures.writes c.in-Ok-Passed.ensures.end
    (ap (λ (ws : List ℕ × ℕ). play_of (machine_of c.args.model.now) c.args.sources.now (acts_of c.args.commands.now) (left ws) c.args.budget) c.of-words.ensures) (sym (ap end_code c.in-Ok-Passed.field-0-is))

pub returns-in-Ok-CheckFailed : goal.returns-in-Ok-CheckFailed
returns-in-Ok-CheckFailed g c =
    play_said g.K.Sink.written g.K.Sink.faults c.args.sink.now c.play.new.sink _ _ c.in-Ok-CheckFailed.field-0 1 c.in-Ok-CheckFailed.ensures.writes c.in-Ok-CheckFailed.ensures.end
    (ap (λ (ws : List ℕ × ℕ). play_of (machine_of c.args.model.now) c.args.sources.now (acts_of c.args.commands.now) (left ws) c.args.budget) c.of-words.ensures) (sym (ap end_code c.in-Ok-CheckFailed.field-0-is))

pub returns-in-Ok-Stopped : goal.returns-in-Ok-Stopped
returns-in-Ok-Stopped g c =
    play_said g.K.Sink.written g.K.Sink.faults c.args.sink.now c.play.new.sink _ _ c.in-Ok-Stopped.field-0 4 c.in-Ok-Stopped.ensures.writes c.in-Ok-Stopped.ensures.end
    (ap (λ (ws : List ℕ × ℕ). play_of (machine_of c.args.model.now) c.args.sources.now (acts_of c.args.commands.now) (left ws) c.args.budget) c.of-words.ensures) (sym (ap end_code c.in-Ok-Stopped.field-0-is))

pub returns-in-Ok-Budget : goal.returns-in-Ok-Budget
returns-in-Ok-Budget g c =
    play_said g.K.Sink.written g.K.Sink.faults c.args.sink.now c.play.new.sink _ _ c.in-Ok-Budget.field-0 4 c.in-Ok-Budget.ensures.writes c.in-Ok-Budget.ensures.end
    (ap (λ (ws : List ℕ × ℕ). play_of (machine_of c.args.model.now) c.args.sources.now (acts_of c.args.commands.now) (left ws) c.args.budget) c.of-words.ensures) (sym (ap end_code c.in-Ok-Budget.field-0-is))
