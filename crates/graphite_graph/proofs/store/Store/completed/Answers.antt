use Rattle.std.proofs.Common.{◌∙◌, ap, sym, subst, length}
use Rattle.graphite_graph.specs.Store.{AreOwned}
use Rattle.graphite_graph.proofs.StoreLemmas.{length-vertices_of, length-edges_of}
use Rattle.graphite_graph.proofs.store.Store.completed.Goals as goal

pub invariant_of-result : goal.invariant_of-result
invariant_of-result c =
    let vertices = ap (λ graph. length graph.vertices) (sym c.self.view_is) ∙ length-vertices_of _ _ c.self.invariant.1.in_step in
    let edges = ap (λ graph. length graph.edges) (sym c.self.view_is) ∙ length-edges_of _ _ _ c.self.invariant.2.ends_in_step c.self.invariant.2.in_step in (
      c.self.invariant.0,
      c.self.invariant.1,
      c.self.invariant.2,
      subst (λ n. AreOwned n c.args.vertex_props) vertices c.requires.of_vertices,
      subst (λ n. AreOwned n c.args.edge_props) edges c.requires.of_edges,
    )
