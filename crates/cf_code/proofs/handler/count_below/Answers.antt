use Rattle.std.proofs.Common.{ltb, ltb-true, ltb-false, rules}
use Rattle.std.proofs.lemmas.List.Sorted.{IsPartitionPoint-from_clause, IsPartitionedBy-ltb}
use Rattle.std.proofs.lemmas.List.Sorted.{IsNonDecreasingBy-from_sort}
use Rattle.cf_code.proofs.handler.count_below.Goals as goal

pub returns-clause-count : goal.returns-clause-count
returns-clause-count c =
    let rising = IsNonDecreasingBy-from_sort (λ n. n) _ c.requires in
    let parted = IsPartitionedBy-ltb (λ n. n) _ c.args.pc rising in
    let point = IsPartitionPoint-from_clause (λ n. ltb n c.args.pc) _ _ c.partition_point.ensures.partitioned parted
    (λ a r q k. search rules) in (
      λ k d le lt. ltb-true _ _ (point.0 k d le lt),
      λ k d le lt. ltb-false _ _ (point.1 k d le lt),
    )
