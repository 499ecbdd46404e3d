use Rattle.std.proofs.Common.{ap, ◌∙◌}
use Rattle.std.specs.FinMap.{remove}
use Rattle.asm_node.proofs.Inputs.{remove-lookup}
use Rattle.asm_node.proofs.input.Input.remove.Goals as goal

pub returns : goal.returns
returns c =
    remove-lookup c.self.inside.values.entries _ c.args.slot c.remove.ensures.updates.0
    ∙ ap (λ m. remove m c.args.slot) c.self.view_is
