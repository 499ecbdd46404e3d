use Rattle.std.proofs.Common.{◌∙◌, sym, ap, nat_eq}
use Rattle.std.specs.List.{list_any}
use Rattle.asm_node.specs.UpdateSet.{touches}
use Rattle.asm_node.proofs.UpdateSets.{any-items}
use Rattle.asm_update.proofs.updates.Updates.touches.Goals as goal

pub returns : goal.returns
returns c =
    c.has_slot.ensures ∙ ap (λ ps. list_any (λ p. nat_eq p.0 c.args.slot) ps) c.deref.ensures.value ∙ sym (any-items (λ p. nat_eq p.0 c.args.slot) c.self.inside.pairs.items)
    ∙ ap (λ u. touches u c.args.slot) c.self.view_is
