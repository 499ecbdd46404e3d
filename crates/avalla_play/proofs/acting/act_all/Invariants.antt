use Rattle.std.proofs.Common.{◌≡◌, ◌≤◌, drop}
use Rattle.asm_io.specs.Writes.{WritesFront}
use Rattle.asm_node.specs.Model.{machine_of}
use Rattle.asm_node.specs.Words.{left}
use Rattle.avalla_command.specs.Acts.{acts_of}
use Rattle.avalla_play.specs.Moves.{all_acted}
use Rattle.avalla_play.specs.Standing.{IsReady, point_of}
use Rattle.avalla_play.proofs.acting.act_all.Given as goal

-- what is left to do are the commands from here on, which end as all of them do
abbrev pub invariant-commands : goal.invariant-commands
invariant-commands g l = record {
  ready : IsReady (machine_of l.context.model.now) l.stage;
  printed : WritesFront g.K.Sink.written g.K.Sink.faults l.fn.sink l.sink (all_acted (machine_of l.context.model.now) l.context.sources.now l.context.budget (acts_of l.commands) (point_of l.fn.stage (left l.fn.words))).text (all_acted (machine_of l.context.model.now) l.context.sources.now l.context.budget (drop l.command-index (acts_of l.commands)) (point_of l.stage (left l.words))).text;
  same_end : (all_acted (machine_of l.context.model.now) l.context.sources.now l.context.budget (drop l.command-index (acts_of l.commands)) (point_of l.stage (left l.words))).to ≡ (all_acted (machine_of l.context.model.now) l.context.sources.now l.context.budget (acts_of l.commands) (point_of l.fn.stage (left l.fn.words))).to;
  same_words : l.words.0 ≡ l.fn.words.0;
  few : l.stage.checks ≤ l.command-index;
}
