-- For private functions alone: what is drawn, and the lines that are made of it.
use Rattle.std.specs.Prelude.{ℕ, List, ◌++◌, map, codes}
use Rattle.std.specs.List.{flat_map, range_with_len}
use Rattle.graphite_gen.specs.declared.draw.Numbers.{Numbers}
use Rattle.graphite_gen.specs.declared.draw.DrawnVertex.{DrawnVertex}
use Rattle.graphite_gen.specs.declared.draw.DrawnEdge.{DrawnEdge}
use Rattle.graphite_gen.specs.Made.{Recipe, edge_cost, edge_from, edge_span, edge_time, edge_to, numbered, vertex_size, vertex_span}
use Rattle.graphite_text.specs.Canonical.{form_line}
use Rattle.graphite_text.specs.Forms.{Edge, EdgeProperty, Vertex, VertexProperty}

abbrev pub recipe_of : Numbers → Recipe
recipe_of numbers = record {
  seed = numbers.seed;
  vertices = numbers.vertices;
  edges = numbers.edges;
  horizon = numbers.horizon;
}

-- ---- what is drawn

abbrev pub drawn_vertex : Recipe → (i : ℕ) → DrawnVertex
drawn_vertex recipe i = record { over = vertex_span recipe i; size = vertex_size recipe i }

abbrev pub drawn_edge : Recipe → (j : ℕ) → DrawnEdge
drawn_edge recipe j = record {
  from = edge_from recipe j;
  to = edge_to recipe j;
  over = edge_span recipe j;
  time = edge_time recipe j;
  cost = edge_cost recipe j;
}

abbrev pub drawn_vertices : Recipe → List DrawnVertex
drawn_vertices recipe = map (drawn_vertex recipe) (range_with_len 0 recipe.vertices)

abbrev pub drawn_edges : Recipe → List DrawnEdge
drawn_edges recipe = map (drawn_edge recipe) (range_with_len 0 recipe.edges)

-- ---- the lines of a vertex and of an edge

abbrev pub vertex_name : ℕ → List ℕ
vertex_name i = numbered (codes "v") i

abbrev pub edge_name : ℕ → List ℕ
edge_name j = numbered (codes "e") j

unfoldable pub vertex_line : (i : ℕ) → DrawnVertex → List ℕ
vertex_line i vertex = form_line (Vertex (vertex_name i) vertex.over)

unfoldable pub edge_line : (j : ℕ) → DrawnEdge → List ℕ
edge_line j edge = form_line (Edge (edge_name j) (vertex_name edge.from) (vertex_name edge.to) edge.over)

unfoldable pub size_line : (i : ℕ) → DrawnVertex → List ℕ
size_line i vertex = form_line (VertexProperty (vertex_name i) (codes "size") vertex.over vertex.size)

unfoldable pub travel_lines : (j : ℕ) → DrawnEdge → List ℕ
travel_lines j edge =
    form_line (EdgeProperty (edge_name j) (codes "time") edge.over edge.time)
    ++ form_line (EdgeProperty (edge_name j) (codes "cost") edge.over edge.cost)

-- ---- the lines of all vertices and of all edges

abbrev pub vertex_lines : (line : ℕ → DrawnVertex → List ℕ) → Recipe → (vertices : ℕ) → List ℕ
vertex_lines line recipe vertices = flat_map (λ i. line i (drawn_vertex recipe i)) (range_with_len 0 vertices)

abbrev pub edge_lines : (line : ℕ → DrawnEdge → List ℕ) → Recipe → (edges : ℕ) → List ℕ
edge_lines line recipe edges = flat_map (λ j. line j (drawn_edge recipe j)) (range_with_len 0 edges)
