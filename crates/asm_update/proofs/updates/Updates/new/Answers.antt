use Rattle.std.proofs.Common.{sym, subst}
use Rattle.std.specs.List.Sorted.{IsStrictlySortedBy}
use Rattle.asm_update.specs.Order.{rank_cmp}
use Rattle.asm_update.proofs.updates.Updates.new.Goals as goal

pub invariant_of-result : goal.invariant_of-result
unfolding IsStrictlySortedBy
invariant_of-result c = subst (IsStrictlySortedBy rank_cmp) (sym c.new.ensures.items) tt
