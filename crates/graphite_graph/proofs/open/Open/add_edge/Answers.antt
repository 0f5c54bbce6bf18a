use Rattle.std.proofs.Common.{◌≡◌, subst, if◌then◌else◌, IfOk}
use Rattle.graphite_text.specs.Spans.{as_span}
use Rattle.graphite_graph.specs.Ends.{with_edge}
use Rattle.graphite_graph.specs.Store.{with_properties}
use Rattle.graphite_graph.proofs.StoreLemmas.{AreOwned-more}
use Rattle.graphite_graph.proofs.OpenLemmas.{opened-edge, no_fewer-edge}
use Rattle.graphite_graph.proofs.open.Open.add_edge.Goals as goal

pub invariant_of-self : goal.invariant_of-self
invariant_of-self c =
    let more = no_fewer-edge c.add_edge.result c.self.inside.store c.add_edge.new.self c.args.name.now c.args.ends (as_span c.args.over) c.add_edge.ensures.graph c.add_edge.ensures.err in
    (AreOwned-more _ _ _ c.self.invariant.0 more.0, AreOwned-more _ _ _ c.self.invariant.1 more.1)

pub returns-clause-graph : goal.returns-clause-graph
returns-clause-graph c =
    subst (λ graph. IfOk c.add_edge.result (λ added. with_properties c.add_edge.new.self c.self.inside.vertex_rows c.self.inside.edge_rows ≡ (if added then with_edge graph c.args.name.now c.args.ends (as_span c.args.over) else graph))) c.self.view_is
    (opened-edge c.add_edge.result c.self.inside.store c.add_edge.new.self c.self.inside.vertex_rows c.self.inside.edge_rows c.args.name.now c.args.ends (as_span c.args.over) c.add_edge.ensures.graph)
