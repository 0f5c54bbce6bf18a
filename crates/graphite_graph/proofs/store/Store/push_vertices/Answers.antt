use Rattle.std.proofs.Common.{map}
use Rattle.graphite_text.specs.Spans.{as_span}
use Rattle.graphite_graph.proofs.ShowLemmas.{vertex_shown}
use Rattle.graphite_graph.proofs.store.Store.push_vertices.Goals as goal

pub loop-v-preserved : goal.loop-v-preserved
loop-v-preserved c =
    vertex_shown c.args.self.now c.loop-v.v c.vertex_name.result.now c.first_span.result (map as_span c.vertex_life.result.now) c.args.into.now.items c.loop-v.into.items c.push_record.new.into.items
    c.vertex_name.ensures c.vertex_life.ensures.life c.first_span.ensures c.loop-v.invariant c.in_ok-push_record.ensures
