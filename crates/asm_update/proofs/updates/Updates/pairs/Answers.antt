use Rattle.std.proofs.Common.{sym, subst}
use Rattle.std.specs.List.Sorted.{IsStrictlySortedBy}
use Rattle.asm_update.specs.Order.{rank_cmp}
use Rattle.asm_update.proofs.Ordered.{distinct_pairs}
use Rattle.asm_update.proofs.updates.Updates.pairs.Goals as goal

pub returns-clause-once : goal.returns-clause-once
returns-clause-once c = distinct_pairs _ (subst (IsStrictlySortedBy rank_cmp) (sym c.as_slice.ensures.value) c.self.invariant)
