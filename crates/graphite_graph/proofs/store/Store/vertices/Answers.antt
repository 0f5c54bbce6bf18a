use Rattle.std.proofs.Common.{◌∙◌, sym, ap, length}
use Rattle.graphite_graph.proofs.StoreLemmas.{length-vertices_of}
use Rattle.graphite_graph.proofs.store.Store.vertices.Goals as goal

pub returns-clause-count : goal.returns-clause-count
returns-clause-count c =
    c.len.ensures ∙ sym (length-vertices_of _ _ c.self.invariant.1.in_step) ∙ ap (λ graph. length graph.vertices) c.self.view_is
