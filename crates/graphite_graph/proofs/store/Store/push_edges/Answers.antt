use Rattle.std.proofs.Common.{map}
use Rattle.graphite_text.specs.Spans.{as_span}
use Rattle.graphite_graph.proofs.ShowLemmas.{edge_shown}
use Rattle.graphite_graph.proofs.store.Store.push_edges.Goals as goal

pub loop-e-preserved : goal.loop-e-preserved
loop-e-preserved c =
    edge_shown c.args.self.now c.loop-e.e c.edge_name.result.now c.vertex_name-from.result.now c.vertex_name-to.result.now c.ends-ends.result c.first_span.result (map as_span c.edge_life.result.now)
    c.args.into.now.items c.loop-e.into.items c.push_record.new.into.items
    c.edge_name.ensures c.ends-ends.ensures.ends c.vertex_name-from.ensures c.vertex_name-to.ensures c.edge_life.ensures.life c.first_span.ensures c.loop-e.invariant c.in_ok-push_record.ensures
