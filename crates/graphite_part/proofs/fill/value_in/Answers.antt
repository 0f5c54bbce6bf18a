-- The first piece that ends after the instant is the only one that can hold it.
use Rattle.std.proofs.Common.{leb, rules, ◌∙◌}
use Rattle.std.proofs.lemmas.List.Sorted.{IsPartitionPoint-from_clause, IsPartitionedBy-leb}
use Rattle.graphite_time.specs.Interval.{end_of}
use Rattle.graphite_part.proofs.CopyLemmas.{IsNonDecreasingBy-end, value_at-found, value_at-not_found}
use Rattle.graphite_part.proofs.fill.value_in.Goals as goal

pub returns-in_err-piece : goal.returns-in_err-piece
returns-in_err-piece g c =
    let parted = IsPartitionedBy-leb (λ y. end_of y.over) c.args.pieces.now c.args.t (IsNonDecreasingBy-end c.args.pieces.now c.requires) in
    let point = IsPartitionPoint-from_clause (λ y. leb (end_of y.over) c.args.t) _ _ c.partition_point-place.ensures.partitioned parted (λ a r q k. search rules) in
    c.from_residual.ensures ∙ value_at-not_found c.args.pieces.now c.args.t c.partition_point-place.result point c.in_err-piece.ensures.lookup.3

pub returns : goal.returns
returns g c =
    let parted = IsPartitionedBy-leb (λ y. end_of y.over) c.args.pieces.now c.args.t (IsNonDecreasingBy-end c.args.pieces.now c.requires) in
    let point = IsPartitionPoint-from_clause (λ y. leb (end_of y.over) c.args.t) _ _ c.partition_point-place.ensures.partitioned parted (λ a r q k. search rules) in
    rw (c.then_some.ensures, c.holds.ensures) (value_at-found c.args.pieces.now c.args.t c.partition_point-place.result c.in_ok-piece.piece.now c.requires point c.in_ok-piece.ensures.lookup.3)
