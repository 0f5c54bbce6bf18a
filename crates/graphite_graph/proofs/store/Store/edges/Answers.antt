use Rattle.std.proofs.Common.{◌∙◌, sym, ap, length, arith}
use Rattle.graphite_graph.specs.Ends.{edge_lifespan_count}
use Rattle.graphite_graph.proofs.StoreLemmas.{length-edges_of, lifespans-edges_of}
use Rattle.graphite_graph.proofs.store.Store.edges.Goals as goal

pub returns-clause-count : goal.returns-clause-count
returns-clause-count c =
    c.len.ensures ∙ sym (length-edges_of _ _ _ c.self.invariant.2.ends_in_step c.self.invariant.2.in_step) ∙ ap (λ graph. length graph.edges) c.self.view_is

pub returns-clause-lifespans : goal.returns-clause-lifespans
returns-clause-lifespans c =
    let parts = c.self.invariant.2 in
    omega (arith, parts.in_limit, parts.one_each, lifespans-edges_of _ _ _ parts.ends_in_step parts.in_step, ap edge_lifespan_count c.self.view_is)
