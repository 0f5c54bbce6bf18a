use Rattle.std.proofs.Common.{◌≡◌, ◌++◌, map, flat_map, take}
use Rattle.graphite_text.specs.Canonical.{form_line, edge_form}
use Rattle.graphite_graph.proofs.store.Store.push_edges.Given as goal

abbrev pub invariant-loop-e : goal.invariant-loop-e
invariant-loop-e l = l.into.items ≡ l.fn.into.items ++ flat_map form_line (map (edge_form l.self.vertices) (take l.e l.self.edges))
