use Rattle.std.proofs.Common.{rules, arith}
use Rattle.std.specs.Ordering.{is_lt}
use Rattle.std.proofs.lemmas.List.Sorted.{IsPartitionPoint-from_clause}
use Rattle.asm_update.specs.Order.{rank_cmp}
use Rattle.asm_update.proofs.Ordered.{rank_partitions, less_is}
use Rattle.asm_update.proofs.place.place_of.Goals as goal

pub returns-clause-before : goal.returns-clause-before
returns-clause-before c =
    let point = IsPartitionPoint-from_clause (λ q. is_lt (rank_cmp q c.args.pair)) _ _ c.partition_point.ensures.partitioned (rank_partitions c.args.pair c.args.pairs.now c.requires) (λ a r q k. search rules) in
    λ k d lt. less_is _ (point.0 k d (omega arith) lt)

pub returns-clause-after : goal.returns-clause-after
returns-clause-after c =
    let point = IsPartitionPoint-from_clause (λ q. is_lt (rank_cmp q c.args.pair)) _ _ c.partition_point.ensures.partitioned (rank_partitions c.args.pair c.args.pairs.now c.requires) (λ a r q k. search rules) in
    λ k d ge lt. point.1 k d ge lt
