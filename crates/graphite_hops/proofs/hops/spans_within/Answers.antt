-- The lifespans that are left out lie before or after the interval.
use Rattle.std.proofs.Common.{◌-◌, arith, leb, nat_lt, length, drop, rules}
use Rattle.std.proofs.lemmas.List.{take_all, length-drop}
use Rattle.std.proofs.lemmas.List.Sorted.{IsPartitionPoint-from_clause, IsPartitionedBy-leb, IsPartitionedBy-ltb}
use Rattle.graphite_time.specs.Interval.{start_of, end_of}
use Rattle.graphite_time.proofs.LifeLemmas.{IsNonDecreasingBy-end_of}
use Rattle.graphite_hops.proofs.WithinLemmas.{later_starts_rise, meeting}
use Rattle.graphite_hops.proofs.hops.spans_within.Goals as goal

pub returns : goal.returns
returns c =
    let spans = c.args.spans.now in
    let from = c.a-from.result in
    let until = c.b-until.result in
    let start = c.partition_point-start.result in
    let rest = take_all (length spans - start) (drop start spans) (omega (arith, length-drop start spans)) in
    let parted = IsPartitionedBy-leb end_of spans from (IsNonDecreasingBy-end_of spans c.requires) in
    let point = IsPartitionPoint-from_clause (λ y. leb (end_of y) from) _ _ c.partition_point-start.ensures.partitioned parted (λ a r q k. search rules) in
    let parted' = IsPartitionedBy-ltb start_of _ until (later_starts_rise start spans _ rest c.requires) in
    let point' = IsPartitionPoint-from_clause (λ y. nat_lt (start_of y) until) _ _ c.partition_point-end.ensures.partitioned parted' (λ a r q k. search rules) in
    meeting spans _ c.args.over from until start c.partition_point-end.result rest c.a-from.ensures.start c.b-until.ensures.end point point'
