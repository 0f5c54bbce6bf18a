-- The first lifespan that ends after the instant is the only one that can hold it.
use Rattle.std.proofs.Common.{leb, rules, ◌∙◌}
use Rattle.std.proofs.lemmas.List.Sorted.{IsPartitionPoint-from_clause, IsPartitionedBy-leb}
use Rattle.graphite_time.specs.Interval.{end_of}
use Rattle.graphite_time.proofs.LifeLemmas.{IsNonDecreasingBy-end_of, lifespan_at-found, lifespan_at-not_found}
use Rattle.graphite_time.proofs.life.stay_in.Goals as goal

pub returns-in_err-span : goal.returns-in_err-span
returns-in_err-span c =
    let parted = IsPartitionedBy-leb end_of c.args.spans.now c.args.t (IsNonDecreasingBy-end_of c.args.spans.now c.requires) in
    let point = IsPartitionPoint-from_clause (λ y. leb (end_of y) c.args.t) _ _ c.partition_point-place.ensures.partitioned parted (λ a r q k. search rules) in
    c.from_residual.ensures ∙ lifespan_at-not_found c.args.spans.now c.args.t c.partition_point-place.result c.requires point c.in_err-span.ensures.lookup.3

pub returns : goal.returns
returns c =
    let parted = IsPartitionedBy-leb end_of c.args.spans.now c.args.t (IsNonDecreasingBy-end_of c.args.spans.now c.requires) in
    let point = IsPartitionPoint-from_clause (λ y. leb (end_of y) c.args.t) _ _ c.partition_point-place.ensures.partitioned parted (λ a r q k. search rules) in
    rw (c.then_some.ensures, c.holds.ensures) (lifespan_at-found c.args.spans.now c.args.t c.partition_point-place.result c.in_ok-span.span.now c.requires point c.in_ok-span.ensures.lookup.3)
