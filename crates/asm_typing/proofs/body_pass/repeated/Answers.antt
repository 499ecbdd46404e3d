use Rattle.std.proofs.Common.{List, ap, ◌∙◌}
use Rattle.asm_faults.specs.At.{Name}
use Rattle.asm_faults.specs.First.{noted}
use Rattle.asm_faults.specs.DomainFaults.{repeats}
use Rattle.asm_typing.specs.BodyPieces.{Met, given_name, over_definitions}
use Rattle.asm_typing.proofs.body_pass.repeated.Goals as goal

pub returns : goal.returns
returns c =
    ap (λ (m : Met). m.first) c.in_ok-all_given.ensures
    ∙ ap (λ (names : List Name). noted c.args.first.now (repeats names (over_definitions given_name c.args.units.now))) c.new-seen.ensures
