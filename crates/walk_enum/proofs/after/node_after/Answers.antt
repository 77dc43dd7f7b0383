use Rattle.std.proofs.Common.{rules, arith}
use Rattle.std.specs.Prelude.{nat_le}
use Rattle.std.proofs.lemmas.Bool.{leb-true, leb-false}
use Rattle.std.proofs.lemmas.List.Sorted.{IsPartitionPoint-from_clause, IsPartitionedBy-leb}
use Rattle.walk_enum.proofs.Rows.{follows_after, ends_after, increasing_not_falling}
use Rattle.walk_enum.proofs.after.node_after.Goals as goal

pub returns-then-place-row-clause-some : goal.returns-then-place-row-clause-some
returns-then-place-row-clause-some c =
    let row = c.args.row.now in
    let place = c.partition_point-place.result in
    let parted = IsPartitionedBy-leb (λ x. x) row c.args.node (increasing_not_falling row c.requires.rising) in
    let point = IsPartitionPoint-from_clause (λ x. nat_le x c.args.node) row place c.partition_point-place.ensures.partitioned parted (λ a r q k. search rules) in
    follows_after row c.args.node place c.requires.rising c.requires.there (omega arith)
    (λ k lt. leb-true _ _ (point.0 k 0 (omega arith) lt)) (λ k le lt. leb-false _ _ (point.1 k 0 le lt))

pub returns-else-place-row-clause-none : goal.returns-else-place-row-clause-none
returns-else-place-row-clause-none c =
    let row = c.args.row.now in
    let place = c.partition_point-place.result in
    let parted = IsPartitionedBy-leb (λ x. x) row c.args.node (increasing_not_falling row c.requires.rising) in
    let point = IsPartitionPoint-from_clause (λ x. nat_le x c.args.node) row place c.partition_point-place.ensures.partitioned parted (λ a r q k. search rules) in
    ends_after row c.args.node place c.requires.rising c.requires.there (omega (arith, c.partition_point-place.ensures.bound))
    (λ k lt. leb-true _ _ (point.0 k 0 (omega arith) lt)) (λ k le lt. leb-false _ _ (point.1 k 0 le lt))
