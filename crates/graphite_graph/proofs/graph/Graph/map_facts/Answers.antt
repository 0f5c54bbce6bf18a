use Rattle.std.proofs.Common.{ap, ◌∙◌}
use Rattle.graphite_graph.specs.Departure.{departing}
use Rattle.graphite_graph.proofs.graph.Graph.map_facts.Goals as goal

pub made_from-requires-clause-counts : goal.made_from-requires-clause-counts
made_from-requires-clause-counts g c = λ v t. ap (λ xs. departing c.args.self.now xs v t) c.deref.ensures.value ∙ c.in_ok-departures.ensures.counts v t
