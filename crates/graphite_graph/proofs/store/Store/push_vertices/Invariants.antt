use Rattle.std.proofs.Common.{◌≡◌, ◌++◌, map, flat_map, take}
use Rattle.graphite_text.specs.Canonical.{form_line, vertex_form}
use Rattle.graphite_graph.proofs.store.Store.push_vertices.Given as goal

abbrev pub invariant-loop-v : goal.invariant-loop-v
invariant-loop-v l = l.into.items ≡ l.fn.into.items ++ flat_map form_line (map vertex_form (take l.v l.self.vertices))
