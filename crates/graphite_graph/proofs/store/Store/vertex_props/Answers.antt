use Rattle.std.proofs.Common.{◌∙◌, sym, ap, subst, length}
use Rattle.graphite_graph.specs.Store.{AreOwned}
use Rattle.graphite_graph.proofs.StoreLemmas.{length-vertices_of}
use Rattle.graphite_graph.proofs.store.Store.vertex_props.Goals as goal

pub returns-clause-owners : goal.returns-clause-owners
returns-clause-owners c =
    let count = sym (length-vertices_of _ _ c.self.invariant.1.in_step) ∙ ap (λ graph. length graph.vertices) c.self.view_is in
    subst (λ n. AreOwned n c.self.inside.vertex_props) count c.self.invariant.3
