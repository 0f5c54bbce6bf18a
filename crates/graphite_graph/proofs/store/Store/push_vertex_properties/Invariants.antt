use Rattle.std.proofs.Common.{◌≡◌, ◌++◌, map, flat_map, take}
use Rattle.graphite_text.specs.Canonical.{form_line, vertex_property_form}
use Rattle.graphite_props.specs.Properties.{keys_of}
use Rattle.graphite_props.specs.Rows.{properties_of}
use Rattle.graphite_graph.proofs.store.Store.push_vertex_properties.Given as goal

abbrev pub invariant-loop-row : goal.invariant-loop-row
invariant-loop-row l =
    l.into.items ≡ l.fn.into.items
    ++ flat_map form_line (map (vertex_property_form l.self.vertices) (properties_of (keys_of l.self.vertex_properties) (take l.row-index l.rows)))
