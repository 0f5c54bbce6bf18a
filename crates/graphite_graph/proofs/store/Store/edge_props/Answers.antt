use Rattle.std.proofs.Common.{◌∙◌, sym, ap, subst, length}
use Rattle.graphite_graph.specs.Store.{AreOwned}
use Rattle.graphite_graph.proofs.StoreLemmas.{length-edges_of}
use Rattle.graphite_graph.proofs.store.Store.edge_props.Goals as goal

pub returns-clause-owners : goal.returns-clause-owners
returns-clause-owners c =
    let count = sym (length-edges_of _ _ _ c.self.invariant.2.ends_in_step c.self.invariant.2.in_step) ∙ ap (λ graph. length graph.edges) c.self.view_is in
    subst (λ n. AreOwned n c.self.inside.edge_props) count c.self.invariant.4
