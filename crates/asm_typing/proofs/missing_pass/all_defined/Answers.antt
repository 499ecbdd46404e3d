use Rattle.std.proofs.Common.{List, ◌++◌, ap, ◌∙◌}
use Rattle.asm_faults.specs.At.{Name}
use Rattle.asm_typing.specs.BodyPieces.{Met, texts, given_name, over_definitions}
use Rattle.asm_typing.proofs.Wanting.{defined_are}
use Rattle.asm_typing.proofs.missing_pass.all_defined.Goals as goal

pub returns : goal.returns
returns c =
    ap (λ (m : Met). m.names) c.in_ok-all_given.ensures
    ∙ ap (λ (names : List Name). names ++ texts (over_definitions given_name c.args.units.now)) c.new-defined.ensures
    ∙ defined_are c.args.units.now
