use Rattle.std.proofs.Common.{rules, arith, ltb}
use Rattle.std.proofs.lemmas.Bool.{ltb-true, ltb-false}
use Rattle.std.proofs.lemmas.List.Sorted.{IsPartitionPoint-from_clause, IsPartitionedBy-ltb}
use Rattle.asm_update.proofs.Clashes.{slots_rise}
use Rattle.asm_update.proofs.place.first_of.Goals as goal

pub returns-clause-below : goal.returns-clause-below
returns-clause-below c =
    let parted = IsPartitionedBy-ltb (λ p. p.0) c.args.pairs.now c.args.slot (λ i j d le lt. slots_rise c.args.pairs.now i j d c.requires le lt) in
    let point = IsPartitionPoint-from_clause (λ p. ltb p.0 c.args.slot) _ _ c.partition_point.ensures.partitioned parted (λ a r q k. search rules) in
    λ k d lt. ltb-true _ _ (point.0 k d (omega arith) lt)

pub returns-clause-not_below : goal.returns-clause-not_below
returns-clause-not_below c =
    let parted = IsPartitionedBy-ltb (λ p. p.0) c.args.pairs.now c.args.slot (λ i j d le lt. slots_rise c.args.pairs.now i j d c.requires le lt) in
    let point = IsPartitionPoint-from_clause (λ p. ltb p.0 c.args.slot) _ _ c.partition_point.ensures.partitioned parted (λ a r q k. search rules) in
    λ k d ge lt. ltb-false _ _ (point.1 k d ge lt)
