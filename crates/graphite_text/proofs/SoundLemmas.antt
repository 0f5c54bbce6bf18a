-- What holds of each graph that a text is accepted with, kept by each accepted record.
use Rattle.std.proofs.Common.{◌≡◌, ◌≤◌, ◌<◌, ℕ, true, false, is_none, List, [], ◌∷◌, ◌++◌, Option, Some, None, refl, sym, ap, ◌∙◌, subst, append_assoc, append-nil, arith}
use Rattle.std.specs.Prelude.{unwrap_or}
use Rattle.std.proofs.lemmas.Bool.{or_parts, leb-false}
use Rattle.std.proofs.lemmas.List.{length_push}
use Rattle.graphite_text.specs.declared.span.Span.{Span}
use Rattle.graphite_text.specs.Graph.{PlainVertex, PlainEdge, PlainProperty, PlainGraph, vertex_number, edge_number}
use Rattle.graphite_text.specs.Forms.{Form, Header, Vertex, Edge, VertexProperty, EdgeProperty, End}
use Rattle.graphite_text.specs.Reading.{Known, nothing_known, with_form, property_count, breaks_order, breaks_new_name, breaks_declared, breaks_limit}
use Rattle.graphite_text.specs.Canonical.{vertex_form, edge_form, vertex_property_form, edge_property_form, first_span, vertex_name_at, edge_name_at}
use Rattle.graphite_text.proofs.CanonicalLines.{IsOwnLine}
use Rattle.graphite_text.proofs.AcceptedLines.{breaks_early, is_misplaced}
use Rattle.graphite_text.proofs.NameLemmas.{number_of, name_of_number, number_push, element_push}

-- ---- lists whose elements each fit behind those before

abbrev pub EachFits : {X : Type 0} → (List X → X → Type 0) → List X → List X → Type 0
EachFits Fits before [] = Unit {0}
EachFits Fits before (x ∷ xs) = Fits before x × EachFits Fits (before ++ x ∷ []) xs

EachFits-push : {X : Type 0} (Fits : List X → X → Type 0) (before xs : List X) (y : X) → EachFits Fits before xs → Fits (before ++ xs) y → EachFits Fits before (xs ++ y ∷ [])
EachFits-push Fits before [] y each last = (subst (λ front. Fits front y) (append-nil before) last, tt)
EachFits-push Fits before (x ∷ xs) y each last =
    (each.0, EachFits-push Fits (before ++ x ∷ []) xs y each.1 (subst (λ front. Fits front y) (sym (append_assoc before (x ∷ []) xs)) last))

EachFits-map : {X : Type 0} (Fits Other : List X → X → Type 0) → ((before : List X) (x : X) → Fits before x → Other before x) → (before xs : List X) → EachFits Fits before xs → EachFits Other before xs
EachFits-map Fits Other step before [] each = tt
EachFits-map Fits Other step before (x ∷ xs) each = (step before x each.0, EachFits-map Fits Other step (before ++ x ∷ []) xs each.1)

-- ---- what is known within a text, with the graph so far

abbrev pub known_of : PlainGraph → Known
known_of graph = record { started = true; ended = false; graph = graph }

abbrev pub front : (h : ℕ) → List PlainVertex → List PlainEdge → (of_vertices of_edges : List PlainProperty) → Known
front h vertices edges of_vertices of_edges = known_of record {
  horizon = h;
  vertices = vertices;
  edges = edges;
  vertex_properties = of_vertices;
  edge_properties = of_edges;
}

abbrev pub vertex_named : PlainVertex → List ℕ
vertex_named vertex = vertex.name

abbrev pub edge_named : PlainEdge → List ℕ
edge_named edge = edge.name

-- the header's own line begins a text
pub record HeaderFits (h : ℕ) : Type 0 where
  pub own : IsOwnLine (Header 1 h)
  pub placed : is_misplaced nothing_known (Header 1 h) ≡ false

-- the vertex can be read behind those before
pub record VertexFits (h : ℕ) (before : List PlainVertex) (vertex : PlainVertex) : Type 0 where
  pub own : IsOwnLine (vertex_form vertex)
  pub early : breaks_early (front h before [] [] []) (vertex_form vertex) ≡ false
  pub limit : breaks_limit (front h before [] [] []) (vertex_form vertex) ≡ false
  pub life : first_span vertex.life ∷ [] ≡ vertex.life

-- the edge can be read behind the vertices and the edges before
pub record EdgeFits (h : ℕ) (vertices : List PlainVertex) (before : List PlainEdge) (edge : PlainEdge) : Type 0 where
  pub own : IsOwnLine (edge_form vertices edge)
  pub early : breaks_early (front h vertices before [] []) (edge_form vertices edge) ≡ false
  pub limit : breaks_limit (front h vertices before [] []) (edge_form vertices edge) ≡ false
  pub life : first_span edge.life ∷ [] ≡ edge.life
  pub from : number_of vertex_named vertices (vertex_name_at vertices edge.from) ≡ Some edge.from
  pub to : number_of vertex_named vertices (vertex_name_at vertices edge.to) ≡ Some edge.to

pub record VertexPropertyFits (h : ℕ) (vertices : List PlainVertex) (before : List PlainProperty) (property : PlainProperty) : Type 0 where
  pub own : IsOwnLine (vertex_property_form vertices property)
  pub early : breaks_early (front h vertices [] before []) (vertex_property_form vertices property) ≡ false
  pub owner : number_of vertex_named vertices (vertex_name_at vertices property.owner) ≡ Some property.owner

pub record EdgePropertyFits (h : ℕ) (edges : List PlainEdge) (before : List PlainProperty) (property : PlainProperty) : Type 0 where
  pub own : IsOwnLine (edge_property_form edges property)
  pub early : breaks_early (front h [] edges [] before) (edge_property_form edges property) ≡ false
  pub owner : number_of edge_named edges (edge_name_at edges property.owner) ≡ Some property.owner

-- Each part of the graph can be read in the order of the canonical text.
pub record IsSound (graph : PlainGraph) : Type 0 where
  pub header : HeaderFits graph.horizon
  pub vertices : EachFits (VertexFits graph.horizon) [] graph.vertices
  pub edges : EachFits (EdgeFits graph.horizon graph.vertices) [] graph.edges
  pub vertex_properties : EachFits (VertexPropertyFits graph.horizon graph.vertices) [] graph.vertex_properties
  pub edge_properties : EachFits (EdgePropertyFits graph.horizon graph.edges) [] graph.edge_properties
  pub count : property_count graph ≤ 4194304

-- ---- one vertex or one edge more leaves what fits

EdgeFits-push : (h : ℕ) (vertices : List PlainVertex) (vertex : PlainVertex) (before : List PlainEdge) (edge : PlainEdge) → EdgeFits h vertices before edge → EdgeFits h (vertices ++ vertex ∷ []) before edge
EdgeFits-push h vertices vertex before edge fits =
    let from = fits.from in
    let to = fits.to in
    let from_later = number_push vertex_named vertices vertex _ edge.from from in
    let to_later = number_push vertex_named vertices vertex _ edge.to to in
    let same_from = element_push vertex_named vertices vertex _ edge.from from in
    let same_to = element_push vertex_named vertices vertex _ edge.to to in
    let own = fits.own in
    let early = fits.early in
    record {
      own = rw (same_from, same_to) own;
      early = rw (same_from, same_to, from_later, to_later, same_from, same_to) (rw (from, to) at early);
      limit = fits.limit;
      life = fits.life;
      from = rw same_from from_later;
      to = rw same_to to_later;
    }

VertexPropertyFits-push : (h : ℕ) (vertices : List PlainVertex) (vertex : PlainVertex) (before : List PlainProperty) (property : PlainProperty) → VertexPropertyFits h vertices before property → VertexPropertyFits h (vertices ++ vertex ∷ []) before property
VertexPropertyFits-push h vertices vertex before property fits =
    let owner = fits.owner in
    let owner_later = number_push vertex_named vertices vertex _ property.owner owner in
    let same = element_push vertex_named vertices vertex _ property.owner owner in
    let own = fits.own in
    let early = fits.early in
    record {
      own = rw same own;
      early = rw (same, owner_later, same) (rw owner at early);
      owner = rw same owner_later;
    }

EdgePropertyFits-push : (h : ℕ) (edges : List PlainEdge) (edge : PlainEdge) (before : List PlainProperty) (property : PlainProperty) → EdgePropertyFits h edges before property → EdgePropertyFits h (edges ++ edge ∷ []) before property
EdgePropertyFits-push h edges edge before property fits =
    let owner = fits.owner in
    let owner_later = number_push edge_named edges edge _ property.owner owner in
    let same = element_push edge_named edges edge _ property.owner owner in
    let own = fits.own in
    let early = fits.early in
    record {
      own = rw same own;
      early = rw (same, owner_later, same) (rw owner at early);
      owner = rw same owner_later;
    }

-- ---- an accepted record leaves a sound graph

some_number : (number : Option ℕ) → is_none number ≡ false → number ≡ Some (unwrap_or number 0)
some_number None is = cc
some_number (Some n) is = refl

-- the ends and the owner are declared
pub declared : (known : Known) (form : Form) → breaks_early known form ≡ false → breaks_declared known form ≡ false
declared known form early =
    let r6 = or_parts (breaks_order known form) _ early in
    let r7 = or_parts (breaks_new_name known form) _ r6.1 in
    (or_parts (breaks_declared known form) _ r7.1).0

-- so the names by their numbers are the names that were read
pub vertex_name_is : (graph : PlainGraph) (name : List ℕ) → is_none (vertex_number graph name) ≡ false → vertex_name_at graph.vertices (unwrap_or (vertex_number graph name) 0) ≡ name
vertex_name_is graph name is = name_of_number vertex_named graph.vertices name (unwrap_or (vertex_number graph name) 0) (some_number (vertex_number graph name) is)

pub edge_name_is : (graph : PlainGraph) (name : List ℕ) → is_none (edge_number graph name) ≡ false → edge_name_at graph.edges (unwrap_or (edge_number graph name) 0) ≡ name
edge_name_is graph name is = name_of_number edge_named graph.edges name (unwrap_or (edge_number graph name) 0) (some_number (edge_number graph name) is)

sound_with_vertex : (known : Known) (name : List ℕ) (over : Span) → IsSound known.graph → IsOwnLine (Vertex name over) → breaks_early known (Vertex name over) ≡ false → breaks_limit known (Vertex name over) ≡ false → IsSound (with_form known.graph (Vertex name over))
sound_with_vertex known name over sound own early limit =
    let graph = known.graph in
    let vertex : PlainVertex = record { name = name; life = over ∷ [] } in
    record {
      header = sound.header;
      vertices = EachFits-push (VertexFits graph.horizon) [] graph.vertices vertex sound.vertices (record { own = own; early = early; limit = limit; life = refl });
      edges = EachFits-map (EdgeFits graph.horizon graph.vertices) (EdgeFits graph.horizon (graph.vertices ++ vertex ∷ [])) (EdgeFits-push graph.horizon graph.vertices vertex) [] graph.edges sound.edges;
      vertex_properties = EachFits-map (VertexPropertyFits graph.horizon graph.vertices) (VertexPropertyFits graph.horizon (graph.vertices ++ vertex ∷ [])) (VertexPropertyFits-push graph.horizon graph.vertices vertex) [] graph.vertex_properties sound.vertex_properties;
      edge_properties = sound.edge_properties;
      count = sound.count;
    }

sound_with_edge : (known : Known) (name from to : List ℕ) (over : Span) → IsSound known.graph → IsOwnLine (Edge name from to over) → breaks_early known (Edge name from to over) ≡ false → breaks_limit known (Edge name from to over) ≡ false → IsSound (with_form known.graph (Edge name from to over))
sound_with_edge known name from to over sound own early limit =
    let graph = known.graph in
    let edge : PlainEdge = record { name = name; from = unwrap_or (vertex_number graph from) 0; to = unwrap_or (vertex_number graph to) 0; life = over ∷ [] } in
    let both = or_parts (is_none (vertex_number graph from)) (is_none (vertex_number graph to)) (declared known (Edge name from to over) early) in
    let number_from : number_of vertex_named graph.vertices from ≡ Some edge.from = some_number (vertex_number graph from) both.0 in
    let number_to : number_of vertex_named graph.vertices to ≡ Some edge.to = some_number (vertex_number graph to) both.1 in
    let name_from : from ≡ vertex_name_at graph.vertices edge.from = sym (vertex_name_is graph from both.0) in
    let name_to : to ≡ vertex_name_at graph.vertices edge.to = sym (vertex_name_is graph to both.1) in
    let same : Edge name from to over ≡ edge_form graph.vertices edge = ap (λ x. Edge name x to over) name_from ∙ ap (λ x. Edge name (vertex_name_at graph.vertices edge.from) x over) name_to in
    record {
      header = sound.header;
      vertices = sound.vertices;
      edges = EachFits-push (EdgeFits graph.horizon graph.vertices) [] graph.edges edge sound.edges (record {
        own = subst IsOwnLine same own;
        early = subst (λ form. breaks_early (front graph.horizon graph.vertices graph.edges [] []) form ≡ false) same early;
        limit = limit;
        life = refl;
        from = subst (λ x. number_of vertex_named graph.vertices x ≡ Some edge.from) name_from number_from;
        to = subst (λ x. number_of vertex_named graph.vertices x ≡ Some edge.to) name_to number_to;
      });
      vertex_properties = sound.vertex_properties;
      edge_properties = EachFits-map (EdgePropertyFits graph.horizon graph.edges) (EdgePropertyFits graph.horizon (graph.edges ++ edge ∷ [])) (EdgePropertyFits-push graph.horizon graph.edges edge) [] graph.edge_properties sound.edge_properties;
      count = sound.count;
    }

sound_with_vertex_property : (known : Known) (owner key : List ℕ) (over : Span) (value : ℕ) → IsSound known.graph → IsOwnLine (VertexProperty owner key over value) → breaks_early known (VertexProperty owner key over value) ≡ false → breaks_limit known (VertexProperty owner key over value) ≡ false → IsSound (with_form known.graph (VertexProperty owner key over value))
sound_with_vertex_property known owner key over value sound own early limit =
    let graph = known.graph in
    let property : PlainProperty = record { owner = unwrap_or (vertex_number graph owner) 0; key = key; over = over; value = value } in
    let known_owner = declared known (VertexProperty owner key over value) early in
    let number : number_of vertex_named graph.vertices owner ≡ Some property.owner = some_number (vertex_number graph owner) known_owner in
    let name : owner ≡ vertex_name_at graph.vertices property.owner = sym (vertex_name_is graph owner known_owner) in
    let below : property_count graph < 4194304 = leb-false 4194304 (property_count graph) limit in
    record {
      header = sound.header;
      vertices = sound.vertices;
      edges = sound.edges;
      vertex_properties = EachFits-push (VertexPropertyFits graph.horizon graph.vertices) [] graph.vertex_properties property sound.vertex_properties (record {
        own = subst (λ x. IsOwnLine (VertexProperty x key over value)) name own;
        early = subst (λ x. breaks_early (front graph.horizon graph.vertices [] graph.vertex_properties []) (VertexProperty x key over value) ≡ false) name early;
        owner = subst (λ x. number_of vertex_named graph.vertices x ≡ Some property.owner) name number;
      });
      edge_properties = sound.edge_properties;
      count = omega (arith, length_push graph.vertex_properties property);
    }

sound_with_edge_property : (known : Known) (owner key : List ℕ) (over : Span) (value : ℕ) → IsSound known.graph → IsOwnLine (EdgeProperty owner key over value) → breaks_early known (EdgeProperty owner key over value) ≡ false → breaks_limit known (EdgeProperty owner key over value) ≡ false → IsSound (with_form known.graph (EdgeProperty owner key over value))
sound_with_edge_property known owner key over value sound own early limit =
    let graph = known.graph in
    let property : PlainProperty = record { owner = unwrap_or (edge_number graph owner) 0; key = key; over = over; value = value } in
    let known_owner = declared known (EdgeProperty owner key over value) early in
    let number : number_of edge_named graph.edges owner ≡ Some property.owner = some_number (edge_number graph owner) known_owner in
    let name : owner ≡ edge_name_at graph.edges property.owner = sym (edge_name_is graph owner known_owner) in
    let below : property_count graph < 4194304 = leb-false 4194304 (property_count graph) limit in
    record {
      header = sound.header;
      vertices = sound.vertices;
      edges = sound.edges;
      vertex_properties = sound.vertex_properties;
      edge_properties = EachFits-push (EdgePropertyFits graph.horizon graph.edges) [] graph.edge_properties property sound.edge_properties (record {
        own = subst (λ x. IsOwnLine (EdgeProperty x key over value)) name own;
        early = subst (λ x. breaks_early (front graph.horizon [] graph.edges [] graph.edge_properties) (EdgeProperty x key over value) ≡ false) name early;
        owner = subst (λ x. number_of edge_named graph.edges x ≡ Some property.owner) name number;
      });
      count = omega (arith, length_push graph.edge_properties property);
    }

-- a record behind the header
pub sound_with_form : (known : Known) (form : Form) → known.started ≡ true → IsSound known.graph → IsOwnLine form → is_misplaced known form ≡ false → breaks_early known form ≡ false → breaks_limit known form ≡ false → IsSound (with_form known.graph form)
sound_with_form known (Header version horizon) started sound own placed early limit = let misplaced = rw started at placed in cc
sound_with_form known (Vertex name over) started sound own placed early limit = sound_with_vertex known name over sound own early limit
sound_with_form known (Edge name from to over) started sound own placed early limit = sound_with_edge known name from to over sound own early limit
sound_with_form known (VertexProperty owner key over value) started sound own placed early limit = sound_with_vertex_property known owner key over value sound own early limit
sound_with_form known (EdgeProperty owner key over value) started sound own placed early limit = sound_with_edge_property known owner key over value sound own early limit
sound_with_form known End started sound own placed early limit = sound

-- a header alone
pub sound_header : (h : ℕ) → HeaderFits h → IsSound (with_form nothing_known.graph (Header 1 h))
sound_header h fits = record { header = fits; vertices = tt; edges = tt; vertex_properties = tt; edge_properties = tt; count = omega arith }
