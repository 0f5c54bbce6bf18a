use Rattle.std.proofs.Common.{◌≡◌, subst, if◌then◌else◌, IfOk}
use Rattle.graphite_text.specs.Spans.{as_span}
use Rattle.graphite_graph.specs.Ends.{with_vertex}
use Rattle.graphite_graph.specs.Store.{with_properties}
use Rattle.graphite_graph.proofs.StoreLemmas.{AreOwned-more}
use Rattle.graphite_graph.proofs.OpenLemmas.{opened-vertex, no_fewer-vertex}
use Rattle.graphite_graph.proofs.open.Open.add_vertex.Goals as goal

pub invariant_of-self : goal.invariant_of-self
invariant_of-self c =
    let more = no_fewer-vertex c.add_vertex.result c.self.inside.store c.add_vertex.new.self c.args.name.now (as_span c.args.over) c.add_vertex.ensures.graph c.add_vertex.ensures.err in
    (AreOwned-more _ _ _ c.self.invariant.0 more.0, AreOwned-more _ _ _ c.self.invariant.1 more.1)

pub returns-clause-graph : goal.returns-clause-graph
returns-clause-graph c =
    subst (λ graph. IfOk c.add_vertex.result (λ added. with_properties c.add_vertex.new.self c.self.inside.vertex_rows c.self.inside.edge_rows ≡ (if added then with_vertex graph c.args.name.now (as_span c.args.over) else graph))) c.self.view_is
    (opened-vertex c.add_vertex.result c.self.inside.store c.add_vertex.new.self c.self.inside.vertex_rows c.self.inside.edge_rows c.args.name.now (as_span c.args.over) c.add_vertex.ensures.graph)
