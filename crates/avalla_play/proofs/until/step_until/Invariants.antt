use Rattle.std.proofs.Common.{◌≡◌, ◌-◌}
use Rattle.asm_io.specs.Writes.{WritesFront}
use Rattle.asm_node.specs.Model.{machine_of}
use Rattle.asm_node.specs.Tree.{plain}
use Rattle.asm_node.specs.Words.{left}
use Rattle.avalla_play.specs.Moves.{steps_until}
use Rattle.avalla_play.specs.Standing.{IsReady, point_of}
use Rattle.avalla_play.proofs.until.step_until.Given as goal

-- what is left to do are the turns from here on, which end as all of them do
abbrev pub invariant-turns : goal.invariant-turns
invariant-turns g l = record {
  ready : IsReady (machine_of l.context.model.now) l.stage;
  printed : WritesFront g.K.Sink.written g.K.Sink.faults l.fn.sink l.sink (steps_until (machine_of l.context.model.now) l.context.sources.now l.context.budget (plain l.condition.value) l.context.budget (point_of l.fn.stage (left l.fn.words))).text (steps_until (machine_of l.context.model.now) l.context.sources.now l.context.budget (plain l.condition.value) (l.context.budget - l.counter) (point_of l.stage (left l.words))).text;
  same_end : (steps_until (machine_of l.context.model.now) l.context.sources.now l.context.budget (plain l.condition.value) (l.context.budget - l.counter) (point_of l.stage (left l.words))).to ≡ (steps_until (machine_of l.context.model.now) l.context.sources.now l.context.budget (plain l.condition.value) l.context.budget (point_of l.fn.stage (left l.fn.words))).to;
  same_words : l.words.0 ≡ l.fn.words.0;
  same_checks : l.stage.checks ≡ l.fn.stage.checks;
}
