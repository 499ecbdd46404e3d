use Rattle.std.proofs.Common.{sym, ap, ◌∙◌}
use Rattle.std.specs.FinMap.{get}
use Rattle.asm_node.proofs.Inputs.{get-lookup}
use Rattle.asm_node.proofs.input.Input.get.Goals as goal

pub returns : goal.returns
returns c = c.get.ensures.value ∙ sym (get-lookup _ _) ∙ ap (λ m. get m c.args.slot) c.self.view_is
