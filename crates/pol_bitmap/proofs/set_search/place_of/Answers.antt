use Rattle.std.proofs.Common.{rules, ◌-◌, ◌%◌, arith}
use Rattle.std.proofs.lemmas.Bool.{ltb-true, ltb-false}
use Rattle.std.specs.Prelude.{nat_lt}
use Rattle.std.proofs.lemmas.List.Sorted.{IsPartitionPoint-from_clause, IsPartitionedBy-ltb}
use Rattle.pol_bitmap.proofs.SetPlaces.{starts_rise, bits_before, ends_after}
use Rattle.pol_bitmap.proofs.set_search.place_of.Goals as goal

pub returns : goal.returns
returns c =
    let ns = c.args.nodes.now in
    let start = c.args.bit - c.args.bit % 64 in
    let place = c.partition_point.result in
    let parted = IsPartitionedBy-ltb (λ n. n.start) ns start (starts_rise 0 ns c.requires.0) in
    let point = IsPartitionPoint-from_clause (λ n. nat_lt n.start start) ns place c.partition_point.ensures.partitioned parted (λ a r q k. search rules) in
    record {
      bound = c.partition_point.ensures.bound;
      before = bits_before 0 c.args.bit ns place c.requires.0 (λ k d lt m. ltb-true _ _ (point.0 k d (omega arith) lt));
      after = ends_after c.args.bit ns place (λ k d le lt. ltb-false _ _ (point.1 k d le lt));
    }
