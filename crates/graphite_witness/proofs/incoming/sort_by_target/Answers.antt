-- The order of the keys is that of the targets, edges and starts.
use Rattle.std.proofs.Common.{◌<◌, ◌^◌, rules}
use Rattle.std.proofs.lemmas.List.Sorted.{IsNonDecreasingBy-from_sort_by_key, All-permutation}
use Rattle.graphite_api.specs.declared.arc.Arc.{Arc}
use Rattle.graphite_witness.specs.ByTarget.{target_key}
use Rattle.graphite_witness.proofs.IncomingLemmas.{by_target, rise_by_target}
use Rattle.graphite_witness.proofs.incoming.sort_by_target.Goals as goal

pub returns-clause-by_target : goal.returns-clause-by_target
returns-clause-by_target c =
    let edges = All-permutation (λ (arc : Arc). arc.edge < 2 ^ 32) _ _ c.sort_unstable_by_key.ensures.permutation c.requires in
    by_target _ edges (IsNonDecreasingBy-from_sort_by_key target_key _ c.sort_unstable_by_key.ensures.sorted (λ a r q k. search rules))

pub returns-clause-rise : goal.returns-clause-rise
returns-clause-rise c = rise_by_target _ (returns-clause-by_target c)
