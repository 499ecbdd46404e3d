use Rattle.std.proofs.Common.{◌∙◌, sym, ap}
use Rattle.asm_node.specs.Machine.{Machine}
use Rattle.avalla_prepare.proofs.unfolding.unfolded_by.Goals as goal

pub unfolded_with-requires : goal.unfolded_with-requires
unfolded_with-requires c = c.in-Ok.ensures ∙ ap (λ (m : Machine). m.signature) (sym c.requires)
