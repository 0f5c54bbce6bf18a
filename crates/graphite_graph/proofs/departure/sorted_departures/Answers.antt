use Rattle.std.proofs.Common.{◌∙◌}
use Rattle.graphite_graph.proofs.DepartureLemmas.{departing-IsPermutation, HaveEdges-IsPermutation}
use Rattle.graphite_graph.proofs.departure.sorted_departures.Goals as goal

pub returns-clause-counts : goal.returns-clause-counts
returns-clause-counts c = λ v t. departing-IsPermutation c.args.graph.now _ _ v t c.sort.ensures.kept ∙ c.in_ok-departures.ensures.counts v t

pub returns-clause-edges : goal.returns-clause-edges
returns-clause-edges c = HaveEdges-IsPermutation c.args.graph.now _ _ c.sort.ensures.kept c.in_ok-departures.ensures.edges
