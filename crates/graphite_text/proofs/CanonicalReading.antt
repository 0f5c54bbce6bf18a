-- The canonical text of a sound graph is read as that graph.
use Rattle.std.proofs.Common.{◌≡◌, ◌≤◌, ℕ, ◌+◌, false, List, [], ◌∷◌, ◌++◌, length, map, refl, sym, ap, ◌∙◌, subst, append_assoc, append-nil, arith}
use Rattle.std.specs.Prelude.{unwrap_or}
use Rattle.std.specs.List.{flat_map}
use Rattle.std.proofs.lemmas.Bool.{lt-leb}
use Rattle.std.proofs.lemmas.List.{length_push}
use Rattle.std.proofs.lemmas.List.Concat.{flat_map-append}
use Rattle.graphite_text.specs.Graph.{PlainVertex, PlainEdge, PlainProperty, PlainGraph}
use Rattle.graphite_text.specs.Lines.{lines_of}
use Rattle.graphite_text.specs.Forms.{Form, Header, End}
use Rattle.graphite_text.specs.Reading.{Known, Accepted, reading_from, nothing_known, known_with, breaks_limit}
use Rattle.graphite_text.specs.Canonical.{canonical_text, form_line, vertex_form, edge_form, vertex_property_form, edge_property_form, first_span, vertex_name_at}
use Rattle.graphite_text.proofs.CanonicalLines.{IsOwnLine}
use Rattle.graphite_text.proofs.AcceptedLines.{own_line_is_read}
use Rattle.graphite_text.proofs.NameLemmas.{number_of}
use Rattle.graphite_text.proofs.SoundLemmas.{EachFits, front, vertex_named, VertexFits, EdgeFits, VertexPropertyFits, EdgePropertyFits, IsSound}

-- the lines of a list of records
abbrev pub lines_text : List Form → List ℕ
lines_text forms = flat_map form_line forms

-- The rest of a text is accepted with the graph, by what is known before it.
abbrev pub Reads : Known → List ℕ → PlainGraph → Type 0
Reads known rest graph = (n : ℕ) → reading_from n known (lines_of rest) ≡ Accepted graph

read_vertices : (h : ℕ) (graph : PlainGraph) (rest : List ℕ) (before vertices : List PlainVertex) → EachFits (VertexFits h) before vertices
    → Reads (front h (before ++ vertices) [] [] []) rest graph → Reads (front h before [] [] []) (lines_text (map vertex_form vertices) ++ rest) graph
read_vertices h graph rest before [] each next = subst (λ all. Reads (front h all [] [] []) rest graph) (append-nil before) next
read_vertices h graph rest before (vertex ∷ vertices) each next =
    let later = read_vertices h graph rest (before ++ vertex ∷ []) vertices each.1 (subst (λ all. Reads (front h all [] [] []) rest graph) (sym (append_assoc before (vertex ∷ []) vertices)) next) in
    let same : known_with (front h before [] [] []) (vertex_form vertex) ≡ front h (before ++ vertex ∷ []) [] [] [] = ap (λ life. front h (before ++ record { name = vertex.name; life = life } ∷ []) [] [] []) each.0.life in
    subst (λ text. Reads (front h before [] [] []) text graph) (sym (append_assoc (form_line (vertex_form vertex)) (lines_text (map vertex_form vertices)) rest))
    (own_line_is_read (front h before [] [] []) (vertex_form vertex) (lines_text (map vertex_form vertices) ++ rest) graph each.0.own refl refl each.0.early each.0.limit
    (subst (λ known. Reads known (lines_text (map vertex_form vertices) ++ rest) graph) (sym same) later))

read_edges : (h : ℕ) (vertices : List PlainVertex) (graph : PlainGraph) (rest : List ℕ) (before edges : List PlainEdge) → EachFits (EdgeFits h vertices) before edges
    → Reads (front h vertices (before ++ edges) [] []) rest graph → Reads (front h vertices before [] []) (lines_text (map (edge_form vertices) edges) ++ rest) graph
read_edges h vertices graph rest before [] each next = subst (λ all. Reads (front h vertices all [] []) rest graph) (append-nil before) next
read_edges h vertices graph rest before (edge ∷ edges) each next =
    let later = read_edges h vertices graph rest (before ++ edge ∷ []) edges each.1 (subst (λ all. Reads (front h vertices all [] []) rest graph) (sym (append_assoc before (edge ∷ []) edges)) next) in
    let made : PlainEdge = record { name = edge.name; from = edge.from; to = edge.to; life = first_span edge.life ∷ [] } in
    let life : made ≡ edge = ap (λ life. record { name = edge.name; from = edge.from; to = edge.to; life = life }) each.0.life in
    let same : known_with (front h vertices before [] []) (edge_form vertices edge) ≡ front h vertices (before ++ edge ∷ []) [] [] =
    ap (λ number. front h vertices (before ++ record { name = edge.name; from = unwrap_or number 0; to = unwrap_or (number_of vertex_named vertices (vertex_name_at vertices edge.to)) 0; life = first_span edge.life ∷ [] } ∷ []) [] []) each.0.from
    ∙ ap (λ number. front h vertices (before ++ record { name = edge.name; from = edge.from; to = unwrap_or number 0; life = first_span edge.life ∷ [] } ∷ []) [] []) each.0.to
    ∙ ap (λ last. front h vertices (before ++ last ∷ []) [] []) life in
    subst (λ text. Reads (front h vertices before [] []) text graph) (sym (append_assoc (form_line (edge_form vertices edge)) (lines_text (map (edge_form vertices) edges)) rest))
    (own_line_is_read (front h vertices before [] []) (edge_form vertices edge) (lines_text (map (edge_form vertices) edges) ++ rest) graph each.0.own refl refl each.0.early each.0.limit
    (subst (λ known. Reads known (lines_text (map (edge_form vertices) edges) ++ rest) graph) (sym same) later))

read_vertex_properties : (h : ℕ) (vertices : List PlainVertex) (edges : List PlainEdge) (graph : PlainGraph) (rest : List ℕ) (before properties : List PlainProperty) → EachFits (VertexPropertyFits h vertices) before properties
    → length before + length properties ≤ 4194304
    → Reads (front h vertices edges (before ++ properties) []) rest graph → Reads (front h vertices edges before []) (lines_text (map (vertex_property_form vertices) properties) ++ rest) graph
read_vertex_properties h vertices edges graph rest before [] each count next = subst (λ all. Reads (front h vertices edges all []) rest graph) (append-nil before) next
read_vertex_properties h vertices edges graph rest before (property ∷ properties) each count next =
    let more : length (before ++ property ∷ []) + length properties ≤ 4194304 = omega (arith, length_push before property) in
    let later = read_vertex_properties h vertices edges graph rest (before ++ property ∷ []) properties each.1 more (subst (λ all. Reads (front h vertices edges all []) rest graph) (sym (append_assoc before (property ∷ []) properties)) next) in
    let same : known_with (front h vertices edges before []) (vertex_property_form vertices property) ≡ front h vertices edges (before ++ property ∷ []) [] =
    ap (λ number. front h vertices edges (before ++ record { owner = unwrap_or number 0; key = property.key; over = property.over; value = property.value } ∷ []) []) each.0.owner in
    let limit : breaks_limit (front h vertices edges before []) (vertex_property_form vertices property) ≡ false = lt-leb 4194304 (length before + 0) (omega arith) in
    subst (λ text. Reads (front h vertices edges before []) text graph) (sym (append_assoc (form_line (vertex_property_form vertices property)) (lines_text (map (vertex_property_form vertices) properties)) rest))
    (own_line_is_read (front h vertices edges before []) (vertex_property_form vertices property) (lines_text (map (vertex_property_form vertices) properties) ++ rest) graph each.0.own refl refl each.0.early limit
    (subst (λ known. Reads known (lines_text (map (vertex_property_form vertices) properties) ++ rest) graph) (sym same) later))

read_edge_properties : (h : ℕ) (vertices : List PlainVertex) (edges : List PlainEdge) (of_vertices : List PlainProperty) (graph : PlainGraph) (rest : List ℕ) (before properties : List PlainProperty) → EachFits (EdgePropertyFits h edges) before properties
    → length of_vertices + (length before + length properties) ≤ 4194304
    → Reads (front h vertices edges of_vertices (before ++ properties)) rest graph → Reads (front h vertices edges of_vertices before) (lines_text (map (edge_property_form edges) properties) ++ rest) graph
read_edge_properties h vertices edges of_vertices graph rest before [] each count next = subst (λ all. Reads (front h vertices edges of_vertices all) rest graph) (append-nil before) next
read_edge_properties h vertices edges of_vertices graph rest before (property ∷ properties) each count next =
    let more : length of_vertices + (length (before ++ property ∷ []) + length properties) ≤ 4194304 = omega (arith, length_push before property) in
    let later = read_edge_properties h vertices edges of_vertices graph rest (before ++ property ∷ []) properties each.1 more (subst (λ all. Reads (front h vertices edges of_vertices all) rest graph) (sym (append_assoc before (property ∷ []) properties)) next) in
    let same : known_with (front h vertices edges of_vertices before) (edge_property_form edges property) ≡ front h vertices edges of_vertices (before ++ property ∷ []) =
    ap (λ number. front h vertices edges of_vertices (before ++ record { owner = unwrap_or number 0; key = property.key; over = property.over; value = property.value } ∷ [])) each.0.owner in
    let limit : breaks_limit (front h vertices edges of_vertices before) (edge_property_form edges property) ≡ false = lt-leb 4194304 (length of_vertices + length before) (omega arith) in
    subst (λ text. Reads (front h vertices edges of_vertices before) text graph) (sym (append_assoc (form_line (edge_property_form edges property)) (lines_text (map (edge_property_form edges) properties)) rest))
    (own_line_is_read (front h vertices edges of_vertices before) (edge_property_form edges property) (lines_text (map (edge_property_form edges) properties) ++ rest) graph each.0.own refl refl each.0.early limit
    (subst (λ known. Reads known (lines_text (map (edge_property_form edges) properties) ++ rest) graph) (sym same) later))

-- ---- the parts of the text

-- the text from the vertices on, the edges on, and so on
abbrev pub text_from_edge_properties : PlainGraph → List ℕ
text_from_edge_properties graph = lines_text (map (edge_property_form graph.edges) graph.edge_properties) ++ lines_text (End ∷ [])

abbrev pub text_from_vertex_properties : PlainGraph → List ℕ
text_from_vertex_properties graph = lines_text (map (vertex_property_form graph.vertices) graph.vertex_properties) ++ text_from_edge_properties graph

abbrev pub text_from_edges : PlainGraph → List ℕ
text_from_edges graph = lines_text (map (edge_form graph.vertices) graph.edges) ++ text_from_vertex_properties graph

abbrev pub text_from_vertices : PlainGraph → List ℕ
text_from_vertices graph = lines_text (map vertex_form graph.vertices) ++ text_from_edges graph

pub canonical_parts : (graph : PlainGraph) → canonical_text graph ≡ form_line (Header 1 graph.horizon) ++ text_from_vertices graph
unfolding canonical_text
canonical_parts graph = simp flat_map-append

-- ---- the whole

end_is_own : IsOwnLine End
end_is_own = record { said = refl; kept = refl; fields = refl }

pub canonical_text_of_sound : (graph : PlainGraph) → IsSound graph → Reads nothing_known (canonical_text graph) graph
canonical_text_of_sound graph sound =
    let h = graph.horizon in
    let last : Reads (front h graph.vertices graph.edges graph.vertex_properties graph.edge_properties) (lines_text (End ∷ [])) graph =
    own_line_is_read (front h graph.vertices graph.edges graph.vertex_properties graph.edge_properties) End [] graph end_is_own refl refl refl refl (λ n. refl) in
    let count = sound.count in
    let from_edge_properties = read_edge_properties h graph.vertices graph.edges graph.vertex_properties graph (lines_text (End ∷ [])) [] graph.edge_properties sound.edge_properties (omega arith) last in
    let from_vertex_properties = read_vertex_properties h graph.vertices graph.edges graph (text_from_edge_properties graph) [] graph.vertex_properties sound.vertex_properties (omega arith) from_edge_properties in
    let from_edges = read_edges h graph.vertices graph (text_from_vertex_properties graph) [] graph.edges sound.edges from_vertex_properties in
    let from_vertices = read_vertices h graph (text_from_edges graph) [] graph.vertices sound.vertices from_edges in
    subst (λ text. Reads nothing_known text graph) (sym (canonical_parts graph))
    (own_line_is_read nothing_known (Header 1 h) (text_from_vertices graph) graph sound.header.own refl sound.header.placed refl refl from_vertices)
