use Rattle.std.proofs.Common.{◌∙◌, ap}
use Rattle.graphite_graph.proofs.StoreLemmas.{AreVertices-none, AreEdges-none}
use Rattle.graphite_graph.proofs.store.Store.set_horizon.Goals as goal

pub invariant_of-self : goal.invariant_of-self
invariant_of-self c = (
  c.requires.in_range,
  AreVertices-none _ _ _ _ c.self.invariant.1 (ap (λ graph. graph.vertices) c.self.view_is ∙ c.requires.no_vertices),
  AreEdges-none _ _ _ _ _ _ c.self.invariant.2 (ap (λ graph. graph.edges) c.self.view_is ∙ c.requires.no_edges),
  c.self.invariant.3,
  c.self.invariant.4,
)
