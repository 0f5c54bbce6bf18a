-- What is read of an edge or a vertex by its number.
use Rattle.std.specs.Prelude.{ℕ, List, [], ◌∷◌, ◌++◌, Option, option_map, slice_get, sum_by, length}
use Rattle.graphite_text.specs.declared.span.Span.{Span}
use Rattle.graphite_text.specs.Graph.{PlainGraph, PlainProperty}
use Rattle.graphite_graph.specs.declared.ends.Ends.{Ends}

-- the name of a vertex; none where there is no such vertex
abbrev pub vertex_name : PlainGraph → ℕ → Option (List ℕ)
vertex_name graph v = option_map (λ vertex. vertex.name) (slice_get graph.vertices v)

abbrev pub edge_name : PlainGraph → ℕ → Option (List ℕ)
edge_name graph e = option_map (λ edge. edge.name) (slice_get graph.edges e)

-- the ends of an edge; none where there is no such edge
abbrev pub edge_ends : PlainGraph → ℕ → Option Ends
edge_ends graph e = option_map (λ edge. record { from = edge.from; to = edge.to }) (slice_get graph.edges e)

-- how many lifespans the vertices have together
abbrev pub lifespan_count : PlainGraph → ℕ
lifespan_count graph = sum_by (λ vertex. length vertex.life) graph.vertices

-- how many lifespans the edges have together
abbrev pub edge_lifespan_count : PlainGraph → ℕ
edge_lifespan_count graph = sum_by (λ edge. length edge.life) graph.edges

-- the graph with one more vertex
abbrev pub with_vertex : PlainGraph → List ℕ → Span → PlainGraph
with_vertex graph name over = record graph { vertices = graph.vertices ++ record { name = name; life = over ∷ [] } ∷ [] }

-- the graph with one more edge
abbrev pub with_edge : PlainGraph → List ℕ → Ends → Span → PlainGraph
with_edge graph name ends over = record graph {
  edges = graph.edges ++ record { name = name; from = ends.from; to = ends.to; life = over ∷ [] } ∷ [];
}

-- the graph with one more property of a vertex
abbrev pub with_vertex_property : PlainGraph → PlainProperty → PlainGraph
with_vertex_property graph property = record graph { vertex_properties = graph.vertex_properties ++ property ∷ [] }

-- the graph with one more property of an edge
abbrev pub with_edge_property : PlainGraph → PlainProperty → PlainGraph
with_edge_property graph property = record graph { edge_properties = graph.edge_properties ++ property ∷ [] }
