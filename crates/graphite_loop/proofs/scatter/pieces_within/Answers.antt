-- The pieces that are left out lie before or after the interval.
use Rattle.std.proofs.Common.{leb, nat_lt, rules}
use Rattle.std.proofs.lemmas.List.Sorted.{IsPartitionPoint-from_clause, IsPartitionedBy-leb, IsPartitionedBy-ltb}
use Rattle.graphite_time.specs.Interval.{start_of, end_of}
use Rattle.graphite_part.proofs.CopyLemmas.{IsNonDecreasingBy-end}
use Rattle.graphite_loop.proofs.DeliveryLemmas.{rest_whole}
use Rattle.graphite_loop.proofs.ScatterLemmas.{later_starts_rise, LeavesApart-made}
use Rattle.graphite_loop.proofs.scatter.pieces_within.Goals as goal

pub returns : goal.returns
returns g c =
    let rest = rest_whole c.partition_point-start.result c.args.pieces.now in
    let parted = IsPartitionedBy-leb (λ y. end_of y.over) c.args.pieces.now c.a-from.result (IsNonDecreasingBy-end c.args.pieces.now c.requires) in
    let point = IsPartitionPoint-from_clause (λ y. leb (end_of y.over) c.a-from.result) _ _ c.partition_point-start.ensures.partitioned parted (λ a r q k. search rules) in
    let parted' = IsPartitionedBy-ltb (λ y. start_of y.over) _ c.b-until.result (later_starts_rise c.partition_point-start.result c.args.pieces.now _ rest c.requires) in
    let point' = IsPartitionPoint-from_clause (λ y. nat_lt (start_of y.over) c.b-until.result) _ _ c.partition_point-end.ensures.partitioned parted' (λ a r q k. search rules) in
    LeavesApart-made c.args.pieces.now _ c.args.over c.a-from.result c.b-until.result c.partition_point-start.result c.partition_point-end.result rest c.a-from.ensures.start c.b-until.ensures.end point point'
