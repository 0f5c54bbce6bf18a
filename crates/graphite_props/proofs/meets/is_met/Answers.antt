use Rattle.std.proofs.Common.{leb, rules}
use Rattle.std.proofs.lemmas.List.Sorted.{IsPartitionPoint-from_clause, IsPartitionedBy-leb}
use Rattle.graphite_time.specs.Interval.{start_of, end_of}
use Rattle.graphite_part.proofs.CopyLemmas.{IsNonDecreasingBy-end}
use Rattle.graphite_props.proofs.MeetsLemmas.{met, free-ended}
use Rattle.graphite_props.proofs.meets.is_met.Goals as goal

pub returns-in-Some : goal.returns-in-Some
returns-in-Some c =
    let parted = IsPartitionedBy-leb (λ y. end_of y.over) c.args.pieces.now (start_of c.args.over) (IsNonDecreasingBy-end c.args.pieces.now c.requires) in
    let point = IsPartitionPoint-from_clause (λ y. leb (end_of y.over) (start_of c.args.over)) _ _ c.partition_point-place.ensures.partitioned parted (λ a r q k. search rules) in
    rw (c.a.ensures.start, c.b.ensures.end) (met c.args.pieces.now c.args.over c.partition_point-place.result c.in-Some.piece.now c.requires point c.in-Some.ensures.lookup.3)

pub returns-in-None : goal.returns-in-None
returns-in-None c =
    let parted = IsPartitionedBy-leb (λ y. end_of y.over) c.args.pieces.now (start_of c.args.over) (IsNonDecreasingBy-end c.args.pieces.now c.requires) in
    let point = IsPartitionPoint-from_clause (λ y. leb (end_of y.over) (start_of c.args.over)) _ _ c.partition_point-place.ensures.partitioned parted (λ a r q k. search rules) in
    free-ended c.args.pieces.now c.args.over c.partition_point-place.result c.requires point c.in-None.ensures.lookup.3
