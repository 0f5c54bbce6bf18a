-- The plain graph, and what holds in it at one instant.
use Rattle.std.specs.Prelude.{ℕ, Bool, ◌&&◌, nat_le, nat_lt, ◌==◌, List, [], Option, option_map, unwrap_or, slice_get, count_by}
use Rattle.std.specs.Str.{bytes_eq}
use Rattle.std.specs.List.{find, list_any, position}
use Rattle.std.specs.Option.{option_map_or}
use Rattle.std.specs.Prelude.{map, codes}
use Rattle.graphite_text.specs.declared.span.Span.{Span}

-- a vertex and its lifespans, in order
pub record PlainVertex : Type 0 where
  pub name : List ℕ
  pub life : List Span

-- an edge between two vertices, named by their numbers, and its lifespans, in order
pub record PlainEdge : Type 0 where
  pub name : List ℕ
  pub from : ℕ
  pub to : ℕ
  pub life : List Span

-- a value that a vertex or an edge has under a key while the span lasts
pub record PlainProperty : Type 0 where
  pub owner : ℕ
  pub key : List ℕ
  pub over : Span
  pub value : ℕ

-- A graph over the instants below its horizon. Vertices and edges are numbered from 0, in the order
-- of their lines.
pub record PlainGraph : Type 0 where
  pub horizon : ℕ
  pub vertices : List PlainVertex
  pub edges : List PlainEdge
  pub vertex_properties : List PlainProperty
  pub edge_properties : List PlainProperty

-- the instant is one of the span's
abbrev pub spans : Span → ℕ → Bool
spans over t = nat_le over.a t && nat_lt t over.b

-- a lifespan of the life holds the instant
abbrev pub is_alive : List Span → ℕ → Bool
is_alive life t = list_any (λ over. spans over t) life

-- the lifespan that holds the instant
abbrev pub lifespan_at : List Span → ℕ → Option Span
lifespan_at life t = find (λ over. spans over t) life

-- the lifespans of a vertex; none where there is no such vertex
abbrev pub vertex_life : PlainGraph → ℕ → List Span
vertex_life graph v = option_map_or (λ vertex. vertex.life) (slice_get graph.vertices v) []

abbrev pub edge_life : PlainGraph → ℕ → List Span
edge_life graph e = option_map_or (λ edge. edge.life) (slice_get graph.edges e) []

abbrev pub vertex_is_alive : PlainGraph → ℕ → ℕ → Bool
vertex_is_alive graph v t = is_alive (vertex_life graph v) t

abbrev pub edge_is_alive : PlainGraph → ℕ → ℕ → Bool
edge_is_alive graph e t = is_alive (edge_life graph e) t

-- the numbers of a name
abbrev pub vertex_number : PlainGraph → List ℕ → Option ℕ
vertex_number graph name = position (bytes_eq name) (map (λ vertex. vertex.name) graph.vertices)

abbrev pub edge_number : PlainGraph → List ℕ → Option ℕ
edge_number graph name = position (bytes_eq name) (map (λ edge. edge.name) graph.edges)

-- a property of this owner and key holds the instant
abbrev pub is_property_at : ℕ → List ℕ → ℕ → PlainProperty → Bool
is_property_at owner key t property = (property.owner == owner) && bytes_eq key property.key && spans property.over t

-- the value of the property of this owner and key at the instant
abbrev pub property_at : List PlainProperty → ℕ → List ℕ → ℕ → Option ℕ
property_at properties owner key t = option_map (λ property. property.value) (find (is_property_at owner key t) properties)

abbrev pub vertex_property_at : PlainGraph → ℕ → List ℕ → ℕ → Option ℕ
vertex_property_at graph v key t = property_at graph.vertex_properties v key t

abbrev pub edge_property_at : PlainGraph → ℕ → List ℕ → ℕ → Option ℕ
edge_property_at graph e key t = property_at graph.edge_properties e key t

-- how many instants an edge takes when it is entered at the instant, and what that costs
abbrev pub travel_time : PlainGraph → ℕ → ℕ → ℕ
travel_time graph e t = unwrap_or (edge_property_at graph e (codes "time") t) 1

abbrev pub travel_cost : PlainGraph → ℕ → ℕ → ℕ
travel_cost graph e t = unwrap_or (edge_property_at graph e (codes "cost") t) 1

-- how many edges that are alive at the instant lead out of the vertex
abbrev pub out_degree : PlainGraph → ℕ → ℕ → ℕ
out_degree graph v t = count_by (λ edge. (edge.from == v) && is_alive edge.life t) graph.edges
