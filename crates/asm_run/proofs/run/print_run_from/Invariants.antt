use Rattle.std.proofs.Common.{◌≡◌, ◌-◌, drop}
use Rattle.asm_io.specs.Writes.{WritesFront}
use Rattle.asm_node.specs.Words.{left}
use Rattle.asm_run.specs.Printed.{run_from}
use Rattle.asm_run.specs.Reached.{reached_from}
use Rattle.asm_run.proofs.run.print_run_from.Given as goal

-- what is left to print is the run from here on, which ends as the whole does and where it does
abbrev pub invariant-steps : goal.invariant-steps
invariant-steps g l = record {
  same_machine : l.session.machine ≡ l.fn.session.machine;
  printed : WritesFront g.K.Sink.written g.K.Sink.faults l.fn.sink l.sink (run_from l.fn.session.machine l.sources 0 l.fn.session.state l.inputs (left l.fn.words) l.steps).text (run_from l.session.machine l.sources l.number l.session.state (drop l.number l.inputs) (left l.words) (l.steps - l.number)).text;
  same_words : l.words.0 ≡ l.fn.words.0;
  same_reached : reached_from l.session.machine l.session.state (drop l.number l.inputs) (left l.words) (l.steps - l.number) ≡ reached_from l.fn.session.machine l.fn.session.state l.inputs (left l.fn.words) l.steps;
  same_end : (run_from l.session.machine l.sources l.number l.session.state (drop l.number l.inputs) (left l.words) (l.steps - l.number)).end ≡ (run_from l.fn.session.machine l.sources 0 l.fn.session.state l.inputs (left l.fn.words) l.steps).end;
}
