use Rattle.std.proofs.Common.{rules}
use Rattle.std.specs.Ordering.{is_lt}
use Rattle.std.proofs.lemmas.List.Sorted.{ranks_by, answers_always}
use Rattle.asm_update.specs.Order.{rank_cmp}
use Rattle.asm_update.proofs.Ordered.{rank_total}
use Rattle.asm_update.proofs.updates.sort.Goals as goal

pub returns-clause-sorted : goal.returns-clause-sorted
returns-clause-sorted c =
    c.sort_unstable_by.ensures.sorted (λ p q. is_lt (rank_cmp p q)) (ranks_by rank_total (λ p. p)) (answers_always _ _ _ (λ f a r g h. search rules))
