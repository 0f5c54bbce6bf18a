-- The canonical text of a graph: a header, the vertices, the edges, the properties of the vertices,
-- those of the edges, and the end.
use Rattle.std.specs.Prelude.{ℕ, List, [], ◌∷◌, ◌++◌, map, codes, slice_get}
use Rattle.std.specs.List.{flat_map}
use Rattle.std.specs.Option.{option_map_or}
use Rattle.std.specs.Fmt.{decimal}
use Rattle.graphite_text.specs.declared.span.Span.{Span}
use Rattle.graphite_text.specs.Graph.{PlainVertex, PlainEdge, PlainProperty, PlainGraph}
use Rattle.graphite_text.specs.Forms.{Form, Header, Vertex, Edge, VertexProperty, EdgeProperty, End}

-- the fields of a record
abbrev pub words_of : Form → List (List ℕ)
words_of (Header version horizon) = codes "graph" ∷ decimal version ∷ decimal horizon ∷ []
words_of (Vertex name over) = codes "v" ∷ name ∷ decimal over.a ∷ decimal over.b ∷ []
words_of (Edge name from to over) = codes "e" ∷ name ∷ from ∷ to ∷ decimal over.a ∷ decimal over.b ∷ []
words_of (VertexProperty owner key over value) = codes "pv" ∷ owner ∷ key ∷ decimal over.a ∷ decimal over.b ∷ decimal value ∷ []
words_of (EdgeProperty owner key over value) = codes "pe" ∷ owner ∷ key ∷ decimal over.a ∷ decimal over.b ∷ decimal value ∷ []
words_of End = codes "end" ∷ []

-- each further word behind a space
abbrev pub spaced : List (List ℕ) → List ℕ
spaced words = flat_map (λ word. 32 ∷ word) words

-- words parted by one space each
abbrev pub joined : List (List ℕ) → List ℕ
joined [] = []
joined (word ∷ words) = word ++ spaced words

abbrev pub text_of : Form → List ℕ
text_of form = joined (words_of form)

-- a record as a line
abbrev pub form_line : Form → List ℕ
form_line form = text_of form ++ 10 ∷ []

-- the first lifespan of a life; a record of version 1 has one
abbrev pub first_span : List Span → Span
first_span [] = record { a = 0; b = 0 }
first_span (over ∷ life) = over

-- the names by number
abbrev pub vertex_name_at : List PlainVertex → ℕ → List ℕ
vertex_name_at vertices v = option_map_or (λ vertex. vertex.name) (slice_get vertices v) []

abbrev pub edge_name_at : List PlainEdge → ℕ → List ℕ
edge_name_at edges e = option_map_or (λ edge. edge.name) (slice_get edges e) []

-- the record of each part of a graph
abbrev pub vertex_form : PlainVertex → Form
vertex_form vertex = Vertex vertex.name (first_span vertex.life)

abbrev pub edge_form : List PlainVertex → PlainEdge → Form
edge_form vertices edge =
    Edge edge.name (vertex_name_at vertices edge.from) (vertex_name_at vertices edge.to) (first_span edge.life)

abbrev pub vertex_property_form : List PlainVertex → PlainProperty → Form
vertex_property_form vertices property =
    VertexProperty (vertex_name_at vertices property.owner) property.key property.over property.value

abbrev pub edge_property_form : List PlainEdge → PlainProperty → Form
edge_property_form edges property =
    EdgeProperty (edge_name_at edges property.owner) property.key property.over property.value

-- the records in their order
abbrev pub canonical_forms : PlainGraph → List Form
canonical_forms graph =
    Header 1 graph.horizon
    ∷ (map vertex_form graph.vertices
    ++ (map (edge_form graph.vertices) graph.edges
    ++ (map (vertex_property_form graph.vertices) graph.vertex_properties
    ++ (map (edge_property_form graph.edges) graph.edge_properties
    ++ End ∷ []))))

unfoldable pub canonical_text : PlainGraph → List ℕ
canonical_text graph = flat_map form_line (canonical_forms graph)
