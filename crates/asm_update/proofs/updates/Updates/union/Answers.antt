use Rattle.std.proofs.Common.{◌∙◌, ap}
use Rattle.std.specs.FinSet as set
use Rattle.asm_node.proofs.UpdateSets.{of_list, of_list-append}
use Rattle.asm_update.proofs.updates.Updates.union.Goals as goal

pub returns-clause-ok : goal.returns-clause-ok
returns-clause-ok c =
    let added = ap of_list c.deref.ensures.value ∙ c.other.view_is in
    c.settle.ensures.same ∙ ap of_list c.in_ok-extend_from_slice.ensures.items ∙ of_list-append _ _
    ∙ λ i. set.union (c.self.view_is i) (added i)
