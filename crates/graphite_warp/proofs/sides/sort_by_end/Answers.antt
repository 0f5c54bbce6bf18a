-- What was sorted by its end is in order.
use Rattle.std.proofs.Common.{rules}
use Rattle.std.proofs.lemmas.List.Sorted.{IsNonDecreasingBy-from_sort_by_key}
use Rattle.graphite_time.specs.Interval.{end_of}
use Rattle.graphite_warp.proofs.sides.sort_by_end.Goals as goal

pub returns-clause-in_order : goal.returns-clause-in_order
returns-clause-in_order g c =
    IsNonDecreasingBy-from_sort_by_key (λ m. end_of m.over) _ c.sort_unstable_by_key.ensures.sorted (λ a r q k. search rules)
