use Rattle.std.proofs.Common.{ap, ◌∙◌}
use Rattle.std.specs.FinMap.{insert}
use Rattle.asm_node.proofs.Inputs.{insert-lookup}
use Rattle.asm_node.proofs.input.Input.set.Goals as goal

pub returns-clause-ok : goal.returns-clause-ok
returns-clause-ok c =
    insert-lookup c.self.inside.values.entries _ c.args.slot c.args.value c.in_ok-insert.ensures.updates.0
    ∙ ap (λ m. insert m c.args.slot c.args.value) c.self.view_is
