-- A graph of fit choices can be read in the order of its canonical text.
use Rattle.std.proofs.Common.{◌≡◌, ◌≤◌, ◌<◌, ℕ, zero, suc, ◌+◌, ◌==◌, true, false, ◌&&◌, not, List, [], ◌∷◌, ◌++◌, length, map, Option, Some, refl, sym, ap, ◌∙◌, subst, arith}
use Rattle.std.specs.Prelude.{codes, slice_get, is_some, is_none, unwrap_or}
use Rattle.std.specs.Fmt.{digits}
use Rattle.std.specs.List.{flat_map, range_with_len, list_any, position}
use Rattle.std.specs.Option.{option_map_or}
use Rattle.std.specs.Str.{bytes_eq}
use Rattle.std.proofs.lemmas.Bool.{and_left, and_right, and_from, or_from, lt-leb, ne_eqb, not_from_true}
use Rattle.std.proofs.lemmas.List.Folds.{list_any-append}
use Rattle.std.proofs.lemmas.List.FromFn.{length-map-range_with_len, map-range_with_len_more}
use Rattle.std.proofs.lemmas.Simd.{map-map}
use Rattle.graphite_time.specs.declared.TheConstants.{LAST}
use Rattle.graphite_text.specs.declared.span.Span.{Span}
use Rattle.graphite_text.specs.Graph.{PlainVertex, PlainEdge, PlainProperty, PlainGraph, is_alive, is_property_at, vertex_number, edge_number}
use Rattle.graphite_text.specs.Forms.{Form, Vertex, Edge, VertexProperty, EdgeProperty}
use Rattle.graphite_text.specs.Reading.{Known, throughout, is_apart, life_of_vertex, life_of_edge, breaks_order, breaks_new_name, breaks_declared, breaks_ends, breaks_owner, breaks_apart, breaks_travel}
use Rattle.graphite_text.specs.Canonical.{edge_form, vertex_name_at, edge_name_at}
use Rattle.graphite_text.proofs.AcceptedLines.{breaks_early}
use Rattle.graphite_text.proofs.NameLemmas.{number_of}
use Rattle.graphite_text.proofs.CanonicalLines.{IsOwnLine}
use Rattle.graphite_text.proofs.SoundLemmas.{EachFits, front, vertex_named, edge_named, HeaderFits, VertexFits, EdgeFits, VertexPropertyFits, EdgePropertyFits, IsSound}
use Rattle.graphite_gen.specs.Made.{numbered}
use Rattle.graphite_gen.proofs.NameLemmas.{number_among, new_among, made_at, numbered_bytes, numbered_is_name, length-numbered}
use Rattle.graphite_gen.proofs.LineLemmas.{IsTimely, IsShortName, IsShortKey, header_is_own, vertex_is_own, edge_is_own, vertex_property_is_own, edge_property_is_own}
use Rattle.graphite_gen.proofs.SpanLemmas.{IsInside, Choices, AreFit, alive_throughout, nowhere_in, in_order}

-- ---- the graph of some choices

abbrev pub vertex_of : Choices → ℕ → PlainVertex
vertex_of chosen i = record { name = numbered (codes "v") i; life = chosen.lives i ∷ [] }

abbrev pub edge_of : Choices → ℕ → PlainEdge
edge_of chosen j = record { name = numbered (codes "e") j; from = chosen.from j; to = chosen.to j; life = chosen.overs j ∷ [] }

abbrev pub size_of : Choices → ℕ → PlainProperty
size_of chosen i = record { owner = i; key = codes "size"; over = chosen.lives i; value = chosen.sizes i }

abbrev pub property_of : Choices → (j : ℕ) → (key : List ℕ) → (value : ℕ) → PlainProperty
property_of chosen j key value = record { owner = j; key = key; over = chosen.overs j; value = value }

abbrev pub travel_of : Choices → ℕ → List PlainProperty
travel_of chosen j = property_of chosen j (codes "time") (chosen.times j) ∷ property_of chosen j (codes "cost") (chosen.costs j) ∷ []

abbrev pub vertices_of : Choices → ℕ → List PlainVertex
vertices_of chosen n = map (vertex_of chosen) (range_with_len 0 n)

abbrev pub edges_of : Choices → ℕ → List PlainEdge
edges_of chosen m = map (edge_of chosen) (range_with_len 0 m)

abbrev pub graph_of : (horizon vertices edges : ℕ) → Choices → PlainGraph
graph_of horizon vertices edges chosen = record {
  horizon = horizon;
  vertices = vertices_of chosen vertices;
  edges = edges_of chosen edges;
  vertex_properties = map (size_of chosen) (range_with_len 0 vertices);
  edge_properties = flat_map (travel_of chosen) (range_with_len 0 edges);
}

-- ---- names and numbers

pub vertex_is_named : (i : ℕ) → i < 1000000 → IsShortName (numbered (codes "v") i)
vertex_is_named i small = record { form = numbered_is_name (codes "v") i refl refl small; bytes = numbered_bytes (codes "v") i refl small; short = length-numbered (codes "v") i refl small }

pub edge_is_named : (j : ℕ) → j < 1000000 → IsShortName (numbered (codes "e") j)
edge_is_named j small = record { form = numbered_is_name (codes "e") j refl refl small; bytes = numbered_bytes (codes "e") j refl small; short = length-numbered (codes "e") j refl small }

pub size_is_key : IsShortKey (codes "size")
size_is_key = record { form = refl; bytes = refl; short = refl }

pub time_is_key : IsShortKey (codes "time")
time_is_key = record { form = refl; bytes = refl; short = refl }

pub cost_is_key : IsShortKey (codes "cost")
cost_is_key = record { form = refl; bytes = refl; short = refl }

vertex_numbered : (chosen : Choices) (i n : ℕ) → i < n → n ≤ 1000000 → number_of vertex_named (vertices_of chosen n) (numbered (codes "v") i) ≡ Some i
vertex_numbered chosen i n within few =
    ap (position (bytes_eq (numbered (codes "v") i))) (map-map vertex_named (vertex_of chosen) (range_with_len 0 n)) ∙ number_among (codes "v") i n within (omega arith)

edge_numbered : (chosen : Choices) (j m : ℕ) → j < m → m ≤ 1000000 → number_of edge_named (edges_of chosen m) (numbered (codes "e") j) ≡ Some j
edge_numbered chosen j m within few =
    ap (position (bytes_eq (numbered (codes "e") j))) (map-map edge_named (edge_of chosen) (range_with_len 0 m)) ∙ number_among (codes "e") j m within (omega arith)

vertex_is_new : (chosen : Choices) (i : ℕ) → i < 1000000 → is_some (number_of vertex_named (vertices_of chosen i) (numbered (codes "v") i)) ≡ false
vertex_is_new chosen i small =
    ap (λ names. is_some (position (bytes_eq (numbered (codes "v") i)) names)) (map-map vertex_named (vertex_of chosen) (range_with_len 0 i)) ∙ new_among (codes "v") i (omega arith)

edge_is_new : (chosen : Choices) (j : ℕ) → j < 1000000 → is_some (number_of edge_named (edges_of chosen j) (numbered (codes "e") j)) ≡ false
edge_is_new chosen j small =
    ap (λ names. is_some (position (bytes_eq (numbered (codes "e") j)) names)) (map-map edge_named (edge_of chosen) (range_with_len 0 j)) ∙ new_among (codes "e") j (omega arith)

pub vertex_name_is : (chosen : Choices) (i n : ℕ) → i < n → vertex_name_at (vertices_of chosen n) i ≡ numbered (codes "v") i
vertex_name_is chosen i n within = ap (λ found. option_map_or vertex_named found []) (made_at (vertex_of chosen) i n within)

pub edge_name_is : (chosen : Choices) (j m : ℕ) → j < m → edge_name_at (edges_of chosen m) j ≡ numbered (codes "e") j
edge_name_is chosen j m within = ap (λ found. option_map_or edge_named found []) (made_at (edge_of chosen) j m within)

-- the life behind a name
vertex_life_is : (chosen : Choices) (i n : ℕ) → i < n → n ≤ 1000000 → (known : Known) → known.graph.vertices ≡ vertices_of chosen n → life_of_vertex known (numbered (codes "v") i) ≡ chosen.lives i ∷ []
vertex_life_is chosen i n within few known is =
    ap (λ (vertices : List PlainVertex). option_map_or (λ (vertex : PlainVertex). vertex.life) (slice_get vertices (unwrap_or (number_of vertex_named vertices (numbered (codes "v") i)) 0)) []) is
    ∙ ap (λ (number : Option ℕ). option_map_or (λ (vertex : PlainVertex). vertex.life) (slice_get (vertices_of chosen n) (unwrap_or number 0)) []) (vertex_numbered chosen i n within few)
    ∙ ap (λ (found : Option PlainVertex). option_map_or (λ (vertex : PlainVertex). vertex.life) found []) (made_at (vertex_of chosen) i n within)

edge_life_is : (chosen : Choices) (j m : ℕ) → j < m → m ≤ 1000000 → (known : Known) → known.graph.edges ≡ edges_of chosen m → life_of_edge known (numbered (codes "e") j) ≡ chosen.overs j ∷ []
edge_life_is chosen j m within few known is =
    ap (λ (edges : List PlainEdge). option_map_or (λ (edge : PlainEdge). edge.life) (slice_get edges (unwrap_or (number_of edge_named edges (numbered (codes "e") j)) 0)) []) is
    ∙ ap (λ (number : Option ℕ). option_map_or (λ (edge : PlainEdge). edge.life) (slice_get (edges_of chosen m) (unwrap_or number 0)) []) (edge_numbered chosen j m within few)
    ∙ ap (λ (found : Option PlainEdge). option_map_or (λ (edge : PlainEdge). edge.life) found []) (made_at (edge_of chosen) j m within)

-- ---- no rule is broken

early_from : (known : Known) (form : Form) → breaks_order known form ≡ false → breaks_new_name known form ≡ false → breaks_declared known form ≡ false → breaks_ends known form ≡ false → breaks_owner known form ≡ false → breaks_apart known form ≡ false → breaks_travel known form ≡ false → breaks_early known form ≡ false
early_from known form order new declared ends owner apart travel =
    or_from _ _ order (or_from _ _ new (or_from _ _ declared (or_from _ _ ends (or_from _ _ owner (or_from _ _ apart travel)))))

pub timely : (horizon : ℕ) (over other : Span) → horizon ≤ LAST → IsInside over other → other.b ≤ horizon → IsTimely over
timely horizon over other last inside within = let some = inside.some in let until = inside.until in (omega arith, omega arith)

header_fits : (h : ℕ) → 1 ≤ h → h ≤ LAST → HeaderFits h
unfolding digits
header_fits h some last = record { own = header_is_own h some last; placed = refl }

vertex_fits : (h n m : ℕ) (chosen : Choices) → AreFit h n m chosen → (i : ℕ) → i < n → VertexFits h (vertices_of chosen i) (vertex_of chosen i)
vertex_fits h n m chosen fit i below =
    let over = chosen.lives i in
    let inside = fit.lives i in
    let small : i < 1000000 = omega (arith, fit.few_vertices) in
    let known = front h (vertices_of chosen i) [] [] [] in
    let room : length (vertices_of chosen i) < 1048576 = omega (arith, length-map-range_with_len (vertex_of chosen) 0 i) in
    record {
      own = vertex_is_own (numbered (codes "v") i) over (vertex_is_named i small) (timely h over over fit.last inside (fit.within i));
      early = early_from known (Vertex (numbered (codes "v") i) over) (in_order h over over inside (fit.within i)) (vertex_is_new chosen i small) refl refl refl refl refl;
      limit = lt-leb 1048576 (length (vertices_of chosen i)) room;
      life = refl;
    }

ends_kept : (h n m : ℕ) (chosen : Choices) → AreFit h n m chosen → (j : ℕ) → j < m → (before : List PlainEdge) (name : List ℕ)
    → breaks_ends (front h (vertices_of chosen n) before [] []) (Edge name (numbered (codes "v") (chosen.from j)) (numbered (codes "v") (chosen.to j)) (chosen.overs j)) ≡ false
ends_kept h n m chosen fit j below before name =
    let over = chosen.overs j in
    let known = front h (vertices_of chosen n) before [] [] in
    let from : throughout (is_alive (life_of_vertex known (numbered (codes "v") (chosen.from j)))) over ≡ true =
    ap (λ (life : List Span). throughout (is_alive life) over) (vertex_life_is chosen (chosen.from j) n (fit.from j below) fit.few_vertices known refl)
    ∙ alive_throughout over (chosen.lives (chosen.from j)) (fit.overs_from j) in
    let to : throughout (is_alive (life_of_vertex known (numbered (codes "v") (chosen.to j)))) over ≡ true =
    ap (λ (life : List Span). throughout (is_alive life) over) (vertex_life_is chosen (chosen.to j) n (fit.to j below) fit.few_vertices known refl)
    ∙ alive_throughout over (chosen.lives (chosen.to j)) (fit.overs_to j) in
    not_from_true _ (and_from _ _ from to)

pub edge_form_is : (h n m : ℕ) (chosen : Choices) → AreFit h n m chosen → (j : ℕ) → j < m
    → edge_form (vertices_of chosen n) (edge_of chosen j) ≡ Edge (numbered (codes "e") j) (numbered (codes "v") (chosen.from j)) (numbered (codes "v") (chosen.to j)) (chosen.overs j)
edge_form_is h n m chosen fit j below =
    ap (λ (from : List ℕ). Edge (numbered (codes "e") j) from (vertex_name_at (vertices_of chosen n) (chosen.to j)) (chosen.overs j)) (vertex_name_is chosen (chosen.from j) n (fit.from j below))
    ∙ ap (λ (to : List ℕ). Edge (numbered (codes "e") j) (numbered (codes "v") (chosen.from j)) to (chosen.overs j)) (vertex_name_is chosen (chosen.to j) n (fit.to j below))

edge_fits : (h n m : ℕ) (chosen : Choices) → AreFit h n m chosen → (j : ℕ) → j < m → EdgeFits h (vertices_of chosen n) (edges_of chosen j) (edge_of chosen j)
edge_fits h n m chosen fit j below =
    let over = chosen.overs j in
    let name = numbered (codes "e") j in
    let from = numbered (codes "v") (chosen.from j) in
    let to = numbered (codes "v") (chosen.to j) in
    let form = Edge name from to over in
    let same : edge_form (vertices_of chosen n) (edge_of chosen j) ≡ form = edge_form_is h n m chosen fit j below in
    let known = front h (vertices_of chosen n) (edges_of chosen j) [] [] in
    let small : j < 1000000 = omega (arith, fit.few_edges) in
    let from_small : chosen.from j < 1000000 = omega (arith, fit.from j below, fit.few_vertices) in
    let to_small : chosen.to j < 1000000 = omega (arith, fit.to j below, fit.few_vertices) in
    let number_from = vertex_numbered chosen (chosen.from j) n (fit.from j below) fit.few_vertices in
    let number_to = vertex_numbered chosen (chosen.to j) n (fit.to j below) fit.few_vertices in
    let inside = fit.overs_from j in
    let within = fit.within (chosen.from j) in
    let room : length (edges_of chosen j) < 2097152 = omega (arith, length-map-range_with_len (edge_of chosen) 0 j) in
    let early : breaks_early known form ≡ false =
    early_from known form (in_order h over (chosen.lives (chosen.from j)) inside within) (edge_is_new chosen j small)
    (or_from (is_none (vertex_number known.graph from)) (is_none (vertex_number known.graph to)) (ap is_none number_from) (ap is_none number_to))
    (ends_kept h n m chosen fit j below (edges_of chosen j) name) refl refl refl in
    record {
      own = subst IsOwnLine (sym same) (edge_is_own name from to over (edge_is_named j small) (vertex_is_named (chosen.from j) from_small) (vertex_is_named (chosen.to j) to_small) (timely h over (chosen.lives (chosen.from j)) fit.last inside within));
      early = subst (λ form. breaks_early known form ≡ false) (sym same) early;
      limit = lt-leb 2097152 (length (edges_of chosen j)) room;
      life = refl;
      from = ap (number_of vertex_named (vertices_of chosen n)) (vertex_name_is chosen (chosen.from j) n (fit.from j below)) ∙ number_from;
      to = ap (number_of vertex_named (vertices_of chosen n)) (vertex_name_is chosen (chosen.to j) n (fit.to j below)) ∙ number_to;
    }

-- ---- properties

-- no earlier property is of a later owner
no_earlier_size : (chosen : Choices) (i t : ℕ) (key : List ℕ) (a n : ℕ) → a + n ≤ i → list_any (is_property_at i key t) (map (size_of chosen) (range_with_len a n)) ≡ false
no_earlier_size chosen i t key a zero past = refl
no_earlier_size chosen i t key a (suc n) past =
    or_from _ _ (and_left _ _ (and_left _ _ (ne_eqb a i (λ (e : a ≡ i). omega arith)))) (no_earlier_size chosen i t key (a + 1) n (omega arith))

no_earlier_travel : (chosen : Choices) (j t : ℕ) (key : List ℕ) (a m : ℕ) → a + m ≤ j → list_any (is_property_at j key t) (flat_map (travel_of chosen) (range_with_len a m)) ≡ false
no_earlier_travel chosen j t key a zero past = refl
no_earlier_travel chosen j t key a (suc m) past =
    let other : (a == j) ≡ false = ne_eqb a j (λ (e : a ≡ j). omega arith) in
    or_from _ _ (and_left _ _ (and_left _ _ other)) (or_from _ _ (and_left _ _ (and_left _ _ other)) (no_earlier_travel chosen j t key (a + 1) m (omega arith)))

-- the cost of an edge is apart from its time
no_earlier_cost : (chosen : Choices) (j t : ℕ) → list_any (is_property_at j (codes "cost") t) (flat_map (travel_of chosen) (range_with_len 0 j) ++ property_of chosen j (codes "time") (chosen.times j) ∷ []) ≡ false
no_earlier_cost chosen j t =
    list_any-append (is_property_at j (codes "cost") t) (flat_map (travel_of chosen) (range_with_len 0 j)) (property_of chosen j (codes "time") (chosen.times j) ∷ [])
    ∙ or_from _ _ (no_earlier_travel chosen j t (codes "cost") 0 j (omega arith)) (or_from _ _ (and_left _ _ (and_right _ _ refl)) refl)

apart_from : (before : List PlainProperty) (owner : ℕ) (number : Option ℕ) (key : List ℕ) (over : Span) → number ≡ Some owner → ((t : ℕ) → list_any (is_property_at owner key t) before ≡ false) → not (is_apart before (unwrap_or number 0) key over) ≡ false
apart_from before owner number key over is none =
    ap (λ (number : Option ℕ). not (is_apart before (unwrap_or number 0) key over)) is
    ∙ not_from_true _ (nowhere_in (λ t. list_any (is_property_at owner key t) before) over none)

vertex_property_fits : (h n m : ℕ) (chosen : Choices) → AreFit h n m chosen → (i : ℕ) → i < n → VertexPropertyFits h (vertices_of chosen n) (map (size_of chosen) (range_with_len 0 i)) (size_of chosen i)
vertex_property_fits h n m chosen fit i below =
    let over = chosen.lives i in
    let value = chosen.sizes i in
    let name = numbered (codes "v") i in
    let key = codes "size" in
    let before = map (size_of chosen) (range_with_len 0 i) in
    let known = front h (vertices_of chosen n) [] before [] in
    let same : vertex_name_at (vertices_of chosen n) i ≡ name = vertex_name_is chosen i n below in
    let number : vertex_number known.graph name ≡ Some i = vertex_numbered chosen i n below fit.few_vertices in
    let small : i < 1000000 = omega (arith, fit.few_vertices) in
    let inside = fit.lives i in
    let alive : throughout (is_alive (life_of_vertex known name)) over ≡ true =
    ap (λ (life : List Span). throughout (is_alive life) over) (vertex_life_is chosen i n below fit.few_vertices known refl) ∙ alive_throughout over over inside in
    let early : breaks_early known (VertexProperty name key over value) ≡ false =
    early_from known (VertexProperty name key over value) (in_order h over over inside (fit.within i)) refl (ap is_none number) refl (not_from_true _ alive)
    (apart_from before i (vertex_number known.graph name) key over number (λ t. no_earlier_size chosen i t key 0 i (omega arith))) refl in
    let own : IsOwnLine (VertexProperty name key over value) = vertex_property_is_own name key over value (vertex_is_named i small) size_is_key (timely h over over fit.last inside (fit.within i)) (fit.sizes i) in
    record {
      own = subst (λ (x : List ℕ). IsOwnLine (VertexProperty x key over value)) (sym same) own;
      early = subst (λ (x : List ℕ). breaks_early known (VertexProperty x key over value) ≡ false) (sym same) early;
      owner = ap (number_of vertex_named (vertices_of chosen n)) same ∙ number;
    }

edge_property_fits : (h n m : ℕ) (chosen : Choices) → AreFit h n m chosen → (j : ℕ) → j < m → (before : List PlainProperty) (key : List ℕ) (value : ℕ) → IsShortKey key → value < 10
    → ((t : ℕ) → list_any (is_property_at j key t) before ≡ false) → bytes_eq key (codes "time") && (value == 0) ≡ false → EdgePropertyFits h (edges_of chosen m) before (property_of chosen j key value)
edge_property_fits h n m chosen fit j below before key value keyed digit none travel =
    let over = chosen.overs j in
    let name = numbered (codes "e") j in
    let known = front h [] (edges_of chosen m) [] before in
    let same : edge_name_at (edges_of chosen m) j ≡ name = edge_name_is chosen j m below in
    let number : edge_number known.graph name ≡ Some j = edge_numbered chosen j m below fit.few_edges in
    let small : j < 1000000 = omega (arith, fit.few_edges) in
    let inside = fit.overs_from j in
    let within = fit.within (chosen.from j) in
    let some = inside.some in
    let own_inside : IsInside over over = record { some = some; from = omega arith; until = omega arith } in
    let alive : throughout (is_alive (life_of_edge known name)) over ≡ true =
    ap (λ (life : List Span). throughout (is_alive life) over) (edge_life_is chosen j m below fit.few_edges known refl) ∙ alive_throughout over over own_inside in
    let early : breaks_early known (EdgeProperty name key over value) ≡ false =
    early_from known (EdgeProperty name key over value) (in_order h over (chosen.lives (chosen.from j)) inside within) refl (ap is_none number) refl (not_from_true _ alive)
    (apart_from before j (edge_number known.graph name) key over number none) travel in
    let own : IsOwnLine (EdgeProperty name key over value) = edge_property_is_own name key over value (edge_is_named j small) keyed (timely h over (chosen.lives (chosen.from j)) fit.last inside within) digit in
    record {
      own = subst (λ (x : List ℕ). IsOwnLine (EdgeProperty x key over value)) (sym same) own;
      early = subst (λ (x : List ℕ). breaks_early known (EdgeProperty x key over value) ≡ false) (sym same) early;
      owner = ap (number_of edge_named (edges_of chosen m)) same ∙ number;
    }

-- ---- all elements of a list that is made of numbers

each_fits : {X : Type 0} (Fits : List X → X → Type 0) (f : ℕ → X) (total : ℕ) → ((i : ℕ) → i < total → Fits (map f (range_with_len 0 i)) (f i))
    → (a n : ℕ) → a + n ≡ total → EachFits Fits (map f (range_with_len 0 a)) (map f (range_with_len a n))
each_fits Fits f total fits a zero is = tt
each_fits Fits f total fits a (suc n) is =
    let later = each_fits Fits f total fits (a + 1) n (omega arith) in
    (fits a (omega arith), subst (λ before. EachFits Fits before (map f (range_with_len (a + 1) n))) (map-range_with_len_more f 0 a a (omega arith)) later)

-- two elements for each number
abbrev pub pair_of : {X : Type 0} → (f g : ℕ → X) → ℕ → List X
pair_of f g k = f k ∷ g k ∷ []

pairs_more : {X : Type 0} (f g : ℕ → X) (a n j : ℕ) → a + n ≡ j
    → flat_map (pair_of f g) (range_with_len a (suc n)) ≡ (flat_map (pair_of f g) (range_with_len a n) ++ f j ∷ []) ++ g j ∷ []
pairs_more f g a zero j is = let same : a ≡ j = omega arith in ap (pair_of f g) same
pairs_more f g a (suc n) j is = ap (λ rest. f a ∷ g a ∷ rest) (pairs_more f g (a + 1) n j (omega arith))

each_pair_fits : {X : Type 0} (Fits : List X → X → Type 0) (f g : ℕ → X) (total : ℕ)
    → ((i : ℕ) → i < total → Fits (flat_map (pair_of f g) (range_with_len 0 i)) (f i))
    → ((i : ℕ) → i < total → Fits (flat_map (pair_of f g) (range_with_len 0 i) ++ f i ∷ []) (g i))
    → (a n : ℕ) → a + n ≡ total → EachFits Fits (flat_map (pair_of f g) (range_with_len 0 a)) (flat_map (pair_of f g) (range_with_len a n))
each_pair_fits Fits f g total first second a zero is = tt
each_pair_fits Fits f g total first second a (suc n) is =
    let next : a + 1 ≡ suc a = omega arith in
    let grown : flat_map (pair_of f g) (range_with_len 0 (a + 1)) ≡ (flat_map (pair_of f g) (range_with_len 0 a) ++ f a ∷ []) ++ g a ∷ [] =
    ap (λ k. flat_map (pair_of f g) (range_with_len 0 k)) next ∙ pairs_more f g 0 a a (omega arith) in
    let later = each_pair_fits Fits f g total first second (a + 1) n (omega arith) in
    (first a (omega arith), (second a (omega arith), subst (λ before. EachFits Fits before (flat_map (pair_of f g) (range_with_len (a + 1) n))) grown later))

length-pairs : {X : Type 0} (f g : ℕ → X) (a n : ℕ) → length (flat_map (pair_of f g) (range_with_len a n)) ≡ n + n
length-pairs f g a zero = refl
length-pairs f g a (suc n) = let later = length-pairs f g (a + 1) n in omega arith

-- ---- the whole

abbrev pub time_of : Choices → ℕ → PlainProperty
time_of chosen j = property_of chosen j (codes "time") (chosen.times j)

abbrev pub cost_of : Choices → ℕ → PlainProperty
cost_of chosen j = property_of chosen j (codes "cost") (chosen.costs j)

time_fits : (h n m : ℕ) (chosen : Choices) → AreFit h n m chosen → (j : ℕ) → j < m → EdgePropertyFits h (edges_of chosen m) (flat_map (travel_of chosen) (range_with_len 0 j)) (time_of chosen j)
time_fits h n m chosen fit j below =
    edge_property_fits h n m chosen fit j below (flat_map (travel_of chosen) (range_with_len 0 j)) (codes "time") (chosen.times j) time_is_key (fit.times j)
    (λ t. no_earlier_travel chosen j t (codes "time") 0 j (omega arith))
    (ne_eqb (chosen.times j) 0 (λ (e : chosen.times j ≡ 0). omega (arith, fit.some_time j)))

cost_fits : (h n m : ℕ) (chosen : Choices) → AreFit h n m chosen → (j : ℕ) → j < m → EdgePropertyFits h (edges_of chosen m) (flat_map (travel_of chosen) (range_with_len 0 j) ++ time_of chosen j ∷ []) (cost_of chosen j)
cost_fits h n m chosen fit j below =
    edge_property_fits h n m chosen fit j below (flat_map (travel_of chosen) (range_with_len 0 j) ++ time_of chosen j ∷ []) (codes "cost") (chosen.costs j) cost_is_key (fit.costs j)
    (λ t. no_earlier_cost chosen j t) refl

pub graph_is_sound : (h n m : ℕ) (chosen : Choices) → AreFit h n m chosen → IsSound (graph_of h n m chosen)
graph_is_sound h n m chosen fit = record {
  header = header_fits h fit.some fit.last;
  vertices = each_fits (VertexFits h) (vertex_of chosen) n (vertex_fits h n m chosen fit) 0 n (omega arith);
  edges = each_fits (EdgeFits h (vertices_of chosen n)) (edge_of chosen) m (edge_fits h n m chosen fit) 0 m (omega arith);
  vertex_properties = each_fits (VertexPropertyFits h (vertices_of chosen n)) (size_of chosen) n (vertex_property_fits h n m chosen fit) 0 n (omega arith);
  edge_properties = each_pair_fits (EdgePropertyFits h (edges_of chosen m)) (time_of chosen) (cost_of chosen) m (time_fits h n m chosen fit) (cost_fits h n m chosen fit) 0 m (omega arith);
  count = omega (arith, fit.few_vertices, fit.few_edges, length-map-range_with_len (size_of chosen) 0 n, length-pairs (time_of chosen) (cost_of chosen) 0 m);
}
