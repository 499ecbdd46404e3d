use Rattle.std.proofs.Common.{sym, subst}
use Rattle.asm_node.specs.Machine as machine
use Rattle.asm_node.specs.Model.{machine_of}
use Rattle.asm_node.specs.RuleTree.{Rule}
use Rattle.asm_node.specs.Step.{IsInput}
use Rattle.asm_fire.specs.Sound.{IsSound}
use Rattle.asm_run.proofs.Truths.{no_input-is}
use Rattle.asm_cli.proofs.fire_tests.fire_main.Goals as goal

pub fire-requires-clause-sound : goal.fire-requires-clause-sound
fire-requires-clause-sound c =
    subst (λ (r : Rule). IsSound (machine_of c.args.model.now) c.new-input.result r) (sym c.main.ensures)
    (c.rules_are_sound.ensures.main c.args.model.now c.new-input.result (subst (λ (i : machine.Input). IsInput (machine_of c.args.model.now) i) (sym c.new-input.ensures) (no_input-is (machine_of c.args.model.now))))
