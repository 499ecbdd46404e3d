use Rattle.std.proofs.Common.{◌++◌}
use Rattle.std.specs.Prelude.{codes}
use Rattle.asm_text.specs.Texts.{state_text}
use Rattle.ref_report.proofs.Rest.{two}
use Rattle.ref_report.proofs.step.append_before.Goals as goal

pub returns : goal.returns
returns c =
    two c.append_state-2.result c.args.text.now c.append_state.new.text c.append_state-2.new.text
    (codes "abstract state\n" ++ state_text c.args.a.now c.args.step.now.abstract_state) (codes "concrete state\n" ++ state_text c.args.c.now c.args.step.now.concrete_state)
    c.in_ok-append_state.ensures c.append_state-2.ensures
