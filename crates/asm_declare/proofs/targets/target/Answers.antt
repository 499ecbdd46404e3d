use Rattle.std.proofs.Common.{◌∙◌}
use Rattle.asm_faults.specs.First.{noted}
use Rattle.asm_declare.specs.Targets.{faults_of_target}
use Rattle.asm_declare.proofs.targets.target.Goals as goal

pub returns : goal.returns
returns c = c.in_ok-note_target.ensures ∙ (λ j. noted c.args.first.now (faults_of_target (c.is_standing-standing.ensures j) (c.measure-known.ensures j) c.args.number c.args.name.now))
