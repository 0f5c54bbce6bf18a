use Rattle.std.proofs.Common.{rules}
use Rattle.std.proofs.lemmas.List.Sorted.{IsNonDecreasingBy-from_sort_by_key}
use Rattle.graphite_graph.proofs.DepartureLemmas.{GoFrom-sorted}
use Rattle.graphite_graph.proofs.departure.sort.Goals as goal

pub returns-clause-ordered : goal.returns-clause-ordered
returns-clause-ordered c =
    GoFrom-sorted _ (IsNonDecreasingBy-from_sort_by_key (λ departure. departure.from) _ c.sort_unstable_by_key.ensures.sorted (λ a r q k. search rules))
