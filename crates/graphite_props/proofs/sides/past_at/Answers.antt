use Rattle.std.proofs.Common.{leb, rules}
use Rattle.std.proofs.lemmas.List.Sorted.{IsPartitionPoint-from_clause, IsPartitionedBy-leb}
use Rattle.graphite_time.specs.Interval.{end_of}
use Rattle.graphite_part.proofs.CopyLemmas.{IsNonDecreasingBy-end}
use Rattle.graphite_props.proofs.BesideLemmas.{past-point}
use Rattle.graphite_props.proofs.sides.past_at.Goals as goal

pub returns : goal.returns
returns g c =
    let parted = IsPartitionedBy-leb (λ y. end_of y.over) c.args.pieces.now c.args.t (IsNonDecreasingBy-end c.args.pieces.now c.requires) in
    let point = IsPartitionPoint-from_clause (λ y. leb (end_of y.over) c.args.t) _ _ c.partition_point.ensures.partitioned parted (λ a r q k. search rules) in
    past-point c.args.pieces.now c.args.t c.partition_point.result c.requires (search rules) point
