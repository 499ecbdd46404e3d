use Rattle.std.proofs.Common.{◌≡◌, [], subst}
use Rattle.std.specs.Prelude.{IfOk, IfErr}
use Rattle.std.specs.List.{flat_map}
use Rattle.asm_node.specs.Machine.{Machine}
use Rattle.avalla_prepare.specs.Prepared.{Tells, command_faults}
use Rattle.avalla_prepare.specs.Scenario.{first_of, written_in}
use Rattle.avalla_prepare.proofs.unfolding.unfolded.Goals as goal

pub returns-in-Ok-clause-faultless : goal.returns-in-Ok-clause-faultless
returns-in-Ok-clause-faultless c =
    subst (λ (m : Machine). IfOk c.unfolded_by.result (λ play. flat_map (command_faults m c.args.file) (flat_map written_in c.args.commands.now) ≡ []))
    c.in-Ok.ensures c.unfolded_by.ensures.faultless

pub returns-in-Ok-clause-fault : goal.returns-in-Ok-clause-fault
returns-in-Ok-clause-fault c =
    subst (λ (m : Machine). IfErr c.unfolded_by.result (Tells (first_of (flat_map (command_faults m c.args.file) (flat_map written_in c.args.commands.now)))))
    c.in-Ok.ensures c.unfolded_by.ensures.fault
