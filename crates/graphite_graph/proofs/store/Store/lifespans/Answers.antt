use Rattle.std.proofs.Common.{◌∙◌, sym, ap}
use Rattle.graphite_graph.specs.Ends.{lifespan_count}
use Rattle.graphite_graph.proofs.StoreLemmas.{lifespans-vertices_of}
use Rattle.graphite_graph.proofs.store.Store.lifespans.Goals as goal

pub returns-clause-count : goal.returns-clause-count
returns-clause-count c =
    let parts = c.self.invariant.1 in
    c.len.ensures ∙ sym parts.one_each ∙ sym (lifespans-vertices_of _ _ parts.in_step) ∙ ap lifespan_count c.self.view_is
