-- The pieces that are left out lie before or after the interval.
use Rattle.std.proofs.Common.{◌-◌, length, drop, leb, nat_lt, arith, rules}
use Rattle.std.proofs.lemmas.List.{take_all, length-drop}
use Rattle.std.proofs.lemmas.List.Sorted.{IsPartitionPoint-from_clause, IsPartitionedBy-leb, IsPartitionedBy-ltb}
use Rattle.graphite_time.specs.Interval.{start_of, end_of}
use Rattle.graphite_part.proofs.CopyLemmas.{IsNonDecreasingBy-end}
use Rattle.graphite_witness.proofs.DepartureLemmas.{later_starts_rise, within-chain, within-values, within-meet}
use Rattle.graphite_witness.proofs.departure.pieces_within.Goals as goal

pub returns : goal.returns
returns c =
    let pieces = c.args.pieces.now in
    let over = c.args.over in
    let start = c.partition_point-start.result in
    let end = c.partition_point-end.result in
    let rest = take_all (length pieces - start) (drop start pieces) (omega (arith, length-drop start pieces)) in
    let parted = IsPartitionedBy-leb (λ y. end_of y.over) pieces c.a-from.result (IsNonDecreasingBy-end pieces c.requires) in
    let point = IsPartitionPoint-from_clause (λ y. leb (end_of y.over) c.a-from.result) _ _ c.partition_point-start.ensures.partitioned parted (λ a r q k. search rules) in
    let parted' = IsPartitionedBy-ltb (λ y. start_of y.over) _ c.b-until.result (later_starts_rise start pieces _ rest c.requires) in
    let point' = IsPartitionPoint-from_clause (λ y. nat_lt (start_of y.over) c.b-until.result) _ _ c.partition_point-end.ensures.partitioned parted' (λ a r q k. search rules) in
    record {
      chain = within-chain pieces _ over c.a-from.result c.b-until.result start end rest c.a-from.ensures.start c.b-until.ensures.end c.requires;
      values = within-values pieces _ over c.a-from.result c.b-until.result start end rest c.a-from.ensures.start c.b-until.ensures.end point point';
      meet = within-meet pieces _ over c.a-from.result c.b-until.result start end rest c.a-from.ensures.start c.b-until.ensures.end point point';
    }
