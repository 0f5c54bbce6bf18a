-- The canonical text of a graph is no longer than the text that it was read from, and the round trip.
use Rattle.std.proofs.Common.{◌≡◌, ℕ, ◌+◌, true, false, List, [], ◌∷◌, ◌++◌, length, map, refl, ap, ◌∙◌, append-nil, arith, length-append}
use Rattle.std.specs.Prelude.{unwrap_or, is_none}
use Rattle.std.proofs.lemmas.Bool.{or_parts}
use Rattle.std.proofs.lemmas.List.{map_push}
use Rattle.std.proofs.lemmas.List.Concat.{flat_map-append}
use Rattle.graphite_text.specs.Graph.{PlainVertex, PlainEdge, PlainProperty, PlainGraph, vertex_number, edge_number}
use Rattle.graphite_text.specs.Forms.{Form, Header, Vertex, Edge, VertexProperty, EdgeProperty, End}
use Rattle.graphite_text.specs.Reading.{Known, with_form, is_end}
use Rattle.graphite_text.specs.Canonical.{canonical_text, form_line, vertex_form, edge_form, vertex_property_form, edge_property_form}
use Rattle.graphite_text.proofs.AcceptedLines.{is_misplaced, breaks_early}
use Rattle.graphite_text.proofs.NameLemmas.{element_push}
use Rattle.graphite_text.proofs.SoundLemmas.{EachFits, EdgeFits, VertexPropertyFits, EdgePropertyFits, IsSound, vertex_named, edge_named, declared, vertex_name_is, edge_name_is}
use Rattle.graphite_text.proofs.CanonicalReading.{lines_text, canonical_parts}

-- ---- one element more adds its line

same_edge_forms : (h : ℕ) (vertices : List PlainVertex) (vertex : PlainVertex) (before edges : List PlainEdge) → EachFits (EdgeFits h vertices) before edges → map (edge_form (vertices ++ vertex ∷ [])) edges ≡ map (edge_form vertices) edges
same_edge_forms h vertices vertex before [] each = refl
same_edge_forms h vertices vertex before (edge ∷ edges) each =
    let from = element_push vertex_named vertices vertex _ edge.from each.0.from in
    let to = element_push vertex_named vertices vertex _ edge.to each.0.to in
    let later = same_edge_forms h vertices vertex (before ++ edge ∷ []) edges each.1 in
    rw (from, to, later) refl

same_vertex_property_forms : (h : ℕ) (vertices : List PlainVertex) (vertex : PlainVertex) (before properties : List PlainProperty) → EachFits (VertexPropertyFits h vertices) before properties → map (vertex_property_form (vertices ++ vertex ∷ [])) properties ≡ map (vertex_property_form vertices) properties
same_vertex_property_forms h vertices vertex before [] each = refl
same_vertex_property_forms h vertices vertex before (property ∷ properties) each =
    let owner = element_push vertex_named vertices vertex _ property.owner each.0.owner in
    let later = same_vertex_property_forms h vertices vertex (before ++ property ∷ []) properties each.1 in
    rw (owner, later) refl

same_edge_property_forms : (h : ℕ) (edges : List PlainEdge) (edge : PlainEdge) (before properties : List PlainProperty) → EachFits (EdgePropertyFits h edges) before properties → map (edge_property_form (edges ++ edge ∷ [])) properties ≡ map (edge_property_form edges) properties
same_edge_property_forms h edges edge before [] each = refl
same_edge_property_forms h edges edge before (property ∷ properties) each =
    let owner = element_push edge_named edges edge _ property.owner each.0.owner in
    let later = same_edge_property_forms h edges edge (before ++ property ∷ []) properties each.1 in
    rw (owner, later) refl

-- the bytes of a list of records
abbrev pub size : List Form → ℕ
size forms = length (lines_text forms)

abbrev pub form_size : Form → ℕ
form_size form = length (form_line form)

size-push : {X : Type 0} (form : X → Form) (xs : List X) (y : X) → size (map form (xs ++ y ∷ [])) ≡ size (map form xs) + form_size (form y)
size-push form xs y =
    ap size (map_push form xs y) ∙ ap length (flat_map-append form_line (map form xs) (form y ∷ []))
    ∙ length-append (lines_text (map form xs)) (form_line (form y) ++ [])
    ∙ ap (λ last. size (map form xs) + length last) (append-nil (form_line (form y)))

-- the bytes of the canonical text
abbrev pub canonical_size : PlainGraph → ℕ
canonical_size graph =
    form_size (Header 1 graph.horizon) + (size (map vertex_form graph.vertices) + (size (map (edge_form graph.vertices) graph.edges)
    + (size (map (vertex_property_form graph.vertices) graph.vertex_properties) + (size (map (edge_property_form graph.edges) graph.edge_properties) + 4))))

pub canonical_text_size : (graph : PlainGraph) → length (canonical_text graph) ≡ canonical_size graph
canonical_text_size graph = ap length (canonical_parts graph) ∙ simp length-append

grown : (a b c d e x : ℕ) → a + ((b + x) + (c + (d + (e + 4)))) ≡ (a + (b + (c + (d + (e + 4))))) + x
grown a b c d e x = omega arith

-- a record behind the header, other than the end
pub grows : (known : Known) (form : Form) → known.started ≡ true → IsSound known.graph → is_misplaced known form ≡ false → breaks_early known form ≡ false → is_end form ≡ false → canonical_size (with_form known.graph form) ≡ canonical_size known.graph + form_size form
grows known (Header version horizon) started sound placed early going_on = let misplaced = rw started at placed in cc
grows known (Vertex name over) started sound placed early going_on =
    let graph = known.graph in
    let vertex : PlainVertex = record { name = name; life = over ∷ [] } in
    let own = size-push vertex_form graph.vertices vertex in
    let edges = same_edge_forms graph.horizon graph.vertices vertex [] graph.edges sound.edges in
    let properties = same_vertex_property_forms graph.horizon graph.vertices vertex [] graph.vertex_properties sound.vertex_properties in
    rw (own, edges, properties) (omega arith)
grows known (Edge name from to over) started sound placed early going_on =
    let graph = known.graph in
    let edge : PlainEdge = record { name = name; from = unwrap_or (vertex_number graph from) 0; to = unwrap_or (vertex_number graph to) 0; life = over ∷ [] } in
    let own = size-push (edge_form graph.vertices) graph.edges edge in
    let both = or_parts (is_none (vertex_number graph from)) (is_none (vertex_number graph to)) (declared known (Edge name from to over) early) in
    let name_from = vertex_name_is graph from both.0 in
    let name_to = vertex_name_is graph to both.1 in
    let own_size : form_size (edge_form graph.vertices edge) ≡ form_size (Edge name from to over) = rw (name_from, name_to) refl in
    let properties = same_edge_property_forms graph.horizon graph.edges edge [] graph.edge_properties sound.edge_properties in
    rw (own, properties, own_size) (omega arith)
grows known (VertexProperty owner key over value) started sound placed early going_on =
    let graph = known.graph in
    let property : PlainProperty = record { owner = unwrap_or (vertex_number graph owner) 0; key = key; over = over; value = value } in
    let own = size-push (vertex_property_form graph.vertices) graph.vertex_properties property in
    let name = vertex_name_is graph owner (declared known (VertexProperty owner key over value) early) in
    let own_size : form_size (vertex_property_form graph.vertices property) ≡ form_size (VertexProperty owner key over value) = rw name refl in
    rw (own, own_size) (omega arith)
grows known (EdgeProperty owner key over value) started sound placed early going_on =
    let graph = known.graph in
    let property : PlainProperty = record { owner = unwrap_or (edge_number graph owner) 0; key = key; over = over; value = value } in
    let own = size-push (edge_property_form graph.edges) graph.edge_properties property in
    let name = edge_name_is graph owner (declared known (EdgeProperty owner key over value) early) in
    let own_size : form_size (edge_property_form graph.edges property) ≡ form_size (EdgeProperty owner key over value) = rw name refl in
    rw (own, own_size) (omega arith)
grows known End started sound placed early going_on = cc
