use Rattle.std.proofs.Common.{◌∙◌, ◌++◌, [], ◌∷◌, ap, sym, map}
use Rattle.graphite_text.specs.Canonical.{form_line, vertex_form, edge_form, vertex_property_form, edge_property_form}
use Rattle.graphite_text.specs.Forms.{Header, End}
use Rattle.graphite_text.proofs.CanonicalReading.{lines_text, canonical_parts}
use Rattle.graphite_graph.proofs.ShowLemmas.{six_parts}
use Rattle.graphite_graph.proofs.store.Store.push_text.Goals as goal

pub returns : goal.returns
returns c =
    let graph = c.args.self.now in
    let old = c.args.into.now.items in
    six_parts old (form_line (Header 1 graph.horizon)) (lines_text (map vertex_form graph.vertices)) (lines_text (map (edge_form graph.vertices) graph.edges))
    (lines_text (map (vertex_property_form graph.vertices) graph.vertex_properties)) (lines_text (map (edge_property_form graph.edges) graph.edge_properties)) (lines_text (End ∷ []))
    c.push_record.new.into.items c.push_vertices.new.into.items c.push_edges.new.into.items c.push_vertex_properties.new.into.items c.push_edge_properties.new.into.items c.push_record-2.new.into.items
    (c.in_ok-push_record.ensures ∙ ap (λ h. old ++ form_line (Header 1 h)) c.horizon.ensures.horizon) c.in_ok-push_vertices.ensures c.in_ok-push_edges.ensures c.in_ok-push_vertex_properties.ensures c.in_ok-push_edge_properties.ensures c.in_ok-push_record-2.ensures
    ∙ ap (λ text. old ++ text) (sym (canonical_parts graph))
