-- The plain vertices and edges that names, ends and lives make.
use Rattle.std.proofs.Common.{◌≡◌, refl, sym, ap, subst, ◌∙◌, ℕ, zero, suc, ◌<◌, ◌≤◌, arith, List, [], ◌∷◌, ◌++◌, length, map, get_or, Some, position, Bool, true, if◌then◌else◌, Result, Ok, Err, is_ok, OnOk, OnErr, length-append, is_none, sum_by}
use Rattle.std.proofs.lemmas.List.{length-map}
use Rattle.std.proofs.lemmas.List.Sums.{sum_by-append}
use Rattle.std.specs.Str.{bytes_eq}
use Rattle.std.specs.Prelude.{slice_get}
use Rattle.std.proofs.lemmas.List.Elements.{All-cons, All-nil, All-push, All-weaker}
use Rattle.graphite_time.specs.Interval.{end_of}
use Rattle.graphite_time.specs.declared.interval.Interval.{Interval}
use Rattle.graphite_text.specs.Graph.{PlainVertex, PlainEdge, PlainProperty, PlainGraph}
use Rattle.graphite_graph.specs.declared.ends.Ends.{Ends}
use Rattle.graphite_graph.specs.Ends.{with_vertex, with_edge}
use Rattle.graphite_text.specs.Spans.{as_span}
use Rattle.graphite_graph.specs.Store.{vertices_of, edges_of, AreVertices, AreEdges, AreAmong, AreOwned, IsLifeBy}

pub length-vertices_of : (names : List (List ℕ)) (lives : List (List Interval)) → length lives ≡ length names
    → length (vertices_of names lives) ≡ length names
length-vertices_of [] lives e = refl
length-vertices_of (name ∷ names) [] e = absurd (omega arith)
length-vertices_of (name ∷ names) (life ∷ lives) e = ap suc (length-vertices_of names lives (omega arith))

pub lifespans-vertices_of : (names : List (List ℕ)) (lives : List (List Interval)) → length lives ≡ length names
    → sum_by (λ vertex. length vertex.life) (vertices_of names lives) ≡ sum_by length lives
lifespans-vertices_of [] [] e = refl
lifespans-vertices_of [] (life ∷ lives) e = absurd (omega arith)
lifespans-vertices_of (name ∷ names) [] e = absurd (omega arith)
lifespans-vertices_of (name ∷ names) (life ∷ lives) e =
    let rest = lifespans-vertices_of names lives (omega arith) in
    omega (
      arith,
      rest,
      length-map life as_span,
      sum_by-append length (life ∷ []) lives,
      sum_by-append (λ (vertex : PlainVertex). length vertex.life) (record { name = name; life = map as_span life } ∷ []) (vertices_of names lives),
    )

pub names-vertices_of : (names : List (List ℕ)) (lives : List (List Interval)) → length lives ≡ length names
    → map (λ vertex. vertex.name) (vertices_of names lives) ≡ names
names-vertices_of [] lives e = refl
names-vertices_of (name ∷ names) [] e = absurd (omega arith)
names-vertices_of (name ∷ names) (life ∷ lives) e = ap (λ rest. name ∷ rest) (names-vertices_of names lives (omega arith))

pub slice_get-vertices_of : (names : List (List ℕ)) (lives : List (List Interval)) (v : ℕ) (name : List ℕ) (life : List Interval) → v < length names → length lives ≡ length names
    → slice_get (vertices_of names lives) v ≡ Some record { name = get_or names v name; life = map as_span (get_or lives v life) }
slice_get-vertices_of [] lives v n l within e = absurd (omega arith)
slice_get-vertices_of (name ∷ names) [] v n l within e = absurd (omega arith)
slice_get-vertices_of (name ∷ names) (life ∷ lives) zero n l within e = refl
slice_get-vertices_of (name ∷ names) (life ∷ lives) (suc v) n l within e = slice_get-vertices_of names lives v n l (omega arith) (omega arith)

pub vertices_of-push : (names : List (List ℕ)) (lives : List (List Interval)) (name : List ℕ) (life : List Interval) → length lives ≡ length names
    → vertices_of (names ++ name ∷ []) (lives ++ life ∷ []) ≡ vertices_of names lives ++ record { name = name; life = map as_span life } ∷ []
vertices_of-push [] [] n l e = refl
vertices_of-push [] (life ∷ lives) n l e = absurd (omega arith)
vertices_of-push (name ∷ names) [] n l e = absurd (omega arith)
vertices_of-push (name ∷ names) (life ∷ lives) n l e =
    ap (λ rest. record { name = name; life = map as_span life } ∷ rest) (vertices_of-push names lives n l (omega arith))

pub length-edges_of : (names : List (List ℕ)) (ends : List Ends) (lives : List (List Interval)) → length ends ≡ length names → length lives ≡ length names
    → length (edges_of names ends lives) ≡ length names
length-edges_of [] ends lives d e = refl
length-edges_of (name ∷ names) [] lives d e = absurd (omega arith)
length-edges_of (name ∷ names) (pair ∷ ends) [] d e = absurd (omega arith)
length-edges_of (name ∷ names) (pair ∷ ends) (life ∷ lives) d e = ap suc (length-edges_of names ends lives (omega arith) (omega arith))

pub lifespans-edges_of : (names : List (List ℕ)) (ends : List Ends) (lives : List (List Interval)) → length ends ≡ length names → length lives ≡ length names
    → sum_by (λ edge. length edge.life) (edges_of names ends lives) ≡ sum_by length lives
lifespans-edges_of [] ends [] d e = refl
lifespans-edges_of [] ends (life ∷ lives) d e = absurd (omega arith)
lifespans-edges_of (name ∷ names) [] lives d e = absurd (omega arith)
lifespans-edges_of (name ∷ names) (pair ∷ ends) [] d e = absurd (omega arith)
lifespans-edges_of (name ∷ names) (pair ∷ ends) (life ∷ lives) d e =
    let rest = lifespans-edges_of names ends lives (omega arith) (omega arith) in
    omega (
      arith,
      rest,
      length-map life as_span,
      sum_by-append length (life ∷ []) lives,
      sum_by-append (λ (edge : PlainEdge). length edge.life) (record { name = name; from = pair.from; to = pair.to; life = map as_span life } ∷ []) (edges_of names ends lives),
    )

pub names-edges_of : (names : List (List ℕ)) (ends : List Ends) (lives : List (List Interval)) → length ends ≡ length names → length lives ≡ length names
    → map (λ edge. edge.name) (edges_of names ends lives) ≡ names
names-edges_of [] ends lives d e = refl
names-edges_of (name ∷ names) [] lives d e = absurd (omega arith)
names-edges_of (name ∷ names) (pair ∷ ends) [] d e = absurd (omega arith)
names-edges_of (name ∷ names) (pair ∷ ends) (life ∷ lives) d e = ap (λ rest. name ∷ rest) (names-edges_of names ends lives (omega arith) (omega arith))

pub slice_get-edges_of : (names : List (List ℕ)) (ends : List Ends) (lives : List (List Interval)) (k : ℕ) (name : List ℕ) (pair : Ends) (life : List Interval)
    → k < length names → length ends ≡ length names → length lives ≡ length names
    → slice_get (edges_of names ends lives) k
    ≡ Some record { name = get_or names k name; from = (get_or ends k pair).from; to = (get_or ends k pair).to; life = map as_span (get_or lives k life) }
slice_get-edges_of [] ends lives k n p l within d e = absurd (omega arith)
slice_get-edges_of (name ∷ names) [] lives k n p l within d e = absurd (omega arith)
slice_get-edges_of (name ∷ names) (pair ∷ ends) [] k n p l within d e = absurd (omega arith)
slice_get-edges_of (name ∷ names) (pair ∷ ends) (life ∷ lives) zero n p l within d e = refl
slice_get-edges_of (name ∷ names) (pair ∷ ends) (life ∷ lives) (suc k) n p l within d e =
    slice_get-edges_of names ends lives k n p l (omega arith) (omega arith) (omega arith)

pub edges_of-push : (names : List (List ℕ)) (ends : List Ends) (lives : List (List Interval)) (name : List ℕ) (pair : Ends) (life : List Interval)
    → length ends ≡ length names → length lives ≡ length names
    → edges_of (names ++ name ∷ []) (ends ++ pair ∷ []) (lives ++ life ∷ [])
    ≡ edges_of names ends lives ++ record { name = name; from = pair.from; to = pair.to; life = map as_span life } ∷ []
edges_of-push [] [] [] n p l d e = refl
edges_of-push [] [] (life ∷ lives) n p l d e = absurd (omega arith)
edges_of-push [] (pair ∷ ends) lives n p l d e = absurd (omega arith)
edges_of-push (name ∷ names) [] lives n p l d e = absurd (omega arith)
edges_of-push (name ∷ names) (pair ∷ ends) [] n p l d e = absurd (omega arith)
edges_of-push (name ∷ names) (pair ∷ ends) (life ∷ lives) n p l d e =
    ap (λ rest. record { name = name; from = pair.from; to = pair.to; life = map as_span life } ∷ rest) (edges_of-push names ends lives n p l (omega arith) (omega arith))

-- a vertex that the plain graph has, among the parts
pub record VertexAt (names : List (List ℕ)) (lives : List (List Interval)) (vertices : List PlainVertex) (v : ℕ) (name : List ℕ) (life : List Interval) : Type 0 where
  pub named : v < length names
  pub living : v < length lives
  pub here : slice_get vertices v ≡ Some record { name = get_or names v name; life = map as_span (get_or lives v life) }

pub vertex_at : (horizon : ℕ) (names : List (List ℕ)) (lives : List (List Interval)) (vertices : List PlainVertex) (v : ℕ) (name : List ℕ) (life : List Interval)
    → AreVertices horizon names lives → vertices_of names lives ≡ vertices → v < length vertices → VertexAt names lives vertices v name life
vertex_at horizon names lives vertices v name life parts seen within =
    let count : length vertices ≡ length names = sym (ap length seen) ∙ length-vertices_of names lives parts.in_step in
    let named : v < length names = omega arith in
    record {
      named = named;
      living = omega (arith, parts.in_step);
      here = ap (λ vs. slice_get vs v) (sym seen) ∙ slice_get-vertices_of names lives v name life named parts.in_step;
    }

-- an edge that the plain graph has, among the parts
pub record EdgeAt (names : List (List ℕ)) (ends : List Ends) (lives : List (List Interval)) (edges : List PlainEdge) (e : ℕ) (name : List ℕ) (pair : Ends) (life : List Interval) : Type 0 where
  pub named : e < length names
  pub ended : e < length ends
  pub living : e < length lives
  pub here : slice_get edges e
      ≡ Some record { name = get_or names e name; from = (get_or ends e pair).from; to = (get_or ends e pair).to; life = map as_span (get_or lives e life) }

pub edge_at : (horizon vertices : ℕ) (names : List (List ℕ)) (ends : List Ends) (lives : List (List Interval)) (edges : List PlainEdge) (e : ℕ) (name : List ℕ) (pair : Ends) (life : List Interval)
    → AreEdges horizon vertices names ends lives → edges_of names ends lives ≡ edges → e < length edges → EdgeAt names ends lives edges e name pair life
edge_at horizon vertices names ends lives edges e name pair life parts seen within =
    let count : length edges ≡ length names = sym (ap length seen) ∙ length-edges_of names ends lives parts.ends_in_step parts.in_step in
    let named : e < length names = omega arith in
    record {
      named = named;
      ended = omega (arith, parts.ends_in_step);
      living = omega (arith, parts.in_step);
      here = ap (λ es. slice_get es e) (sym seen) ∙ slice_get-edges_of names ends lives e name pair life named parts.ends_in_step parts.in_step;
    }

-- the ends of an edge are vertices
pub ends_among : (horizon count vertices : ℕ) (names : List (List ℕ)) (ends : List Ends) (lives : List (List Interval)) (e : ℕ) (pair : Ends)
    → AreEdges horizon count names ends lives → count ≡ vertices → e < length ends → pair ≡ get_or ends e pair → AreAmong vertices pair
ends_among horizon count vertices names ends lives e pair parts same within is =
    let here : AreAmong count (get_or ends e pair) = parts.among e pair within in
    subst (λ n. AreAmong n pair) same (subst (AreAmong count) (sym is) here)

pub taken : {X : Type 0} (b : Bool) (x y z : X) → x ≡ (if b then y else z) → b ≡ true → x ≡ y
taken b x y z e h = e ∙ ap (λ v. if v then y else z) h

-- what a push that had room leaves
pub pushed : {X E : Type 0} (r : Result (Unit {0}) E) (u : Unit {0}) (out xs ys : List X) (x y : X)
    → out ≡ (if is_ok r then xs ++ x ∷ [] else xs) → r ≡ Ok u → xs ≡ ys → x ≡ y → out ≡ ys ++ y ∷ []
pushed r u out xs ys x y e ok same last = e ∙ ap (λ s. if is_ok s then xs ++ x ∷ [] else xs) ok ∙ (λ i. same i ++ last i ∷ [])

one_life : (horizon : ℕ) (over : Interval) → end_of over ≤ horizon → IsLifeBy horizon (over ∷ [])
one_life horizon over within = (tt, All-cons (λ span. end_of span ≤ horizon) over [] within (All-nil _))

pub AreVertices-push : (horizon : ℕ) (names : List (List ℕ)) (lives : List (List Interval)) (name : List ℕ) (over : Interval)
    → AreVertices horizon names lives → length names < 1048576 → end_of over ≤ horizon
    → AreVertices horizon (names ++ name ∷ []) (lives ++ (over ∷ []) ∷ [])
AreVertices-push horizon names lives name over parts room within = record {
  in_limit = omega (arith, length-append names (name ∷ []));
  in_step = omega (arith, parts.in_step, length-append names (name ∷ []), length-append lives ((over ∷ []) ∷ []));
  one_each = omega (arith, parts.one_each, length-append names (name ∷ []), sum_by-append length lives ((over ∷ []) ∷ []));
  are_lives = All-push (IsLifeBy horizon) lives (over ∷ []) parts.are_lives (one_life horizon over within);
}

-- one more vertex leaves the edges as they are
pub AreEdges-more : (horizon count more : ℕ) (names : List (List ℕ)) (ends : List Ends) (lives : List (List Interval))
    → AreEdges horizon count names ends lives → count ≤ more → AreEdges horizon more names ends lives
AreEdges-more horizon count more names ends lives parts le = record {
  in_limit = parts.in_limit;
  ends_in_step = parts.ends_in_step;
  in_step = parts.in_step;
  one_each = parts.one_each;
  are_lives = parts.are_lives;
  among = All-weaker (AreAmong count) (AreAmong more) (λ pair h. (omega (arith, h.0), omega (arith, h.1))) ends parts.among;
}

pub AreEdges-push : (horizon count : ℕ) (names : List (List ℕ)) (ends : List Ends) (lives : List (List Interval)) (name : List ℕ) (pair : Ends) (over : Interval)
    → AreEdges horizon count names ends lives → length names < 2097152 → AreAmong count pair → end_of over ≤ horizon
    → AreEdges horizon count (names ++ name ∷ []) (ends ++ pair ∷ []) (lives ++ (over ∷ []) ∷ [])
AreEdges-push horizon count names ends lives name pair over parts room here within = record {
  in_limit = omega (arith, length-append names (name ∷ []));
  ends_in_step = omega (arith, parts.ends_in_step, length-append names (name ∷ []), length-append ends (pair ∷ []));
  in_step = omega (arith, parts.in_step, length-append names (name ∷ []), length-append lives ((over ∷ []) ∷ []));
  one_each = omega (arith, parts.one_each, length-append names (name ∷ []), sum_by-append length lives ((over ∷ []) ∷ []));
  are_lives = All-push (IsLifeBy horizon) lives (over ∷ []) parts.are_lives (one_life horizon over within);
  among = All-push (AreAmong count) ends pair parts.among here;
}

-- the plain graph with these parts
abbrev pub graph_with : ℕ → List PlainVertex → List PlainEdge → (of_vertices of_edges : List PlainProperty) → PlainGraph
graph_with horizon vertices edges of_vertices of_edges =
    record { horizon = horizon; vertices = vertices; edges = edges; vertex_properties = of_vertices; edge_properties = of_edges }

-- one more name and life are one more vertex
pub grown_vertices : (horizon : ℕ) (names grown_names : List (List ℕ)) (lives grown_lives : List (List Interval)) (edges : List PlainEdge)
    (of_vertices of_edges : List PlainProperty) (graph : PlainGraph) (name : List ℕ) (over : Interval) (added : Bool)
    → length lives ≡ length names → grown_names ≡ names ++ name ∷ [] → grown_lives ≡ lives ++ (over ∷ []) ∷ []
    → graph_with horizon (vertices_of names lives) edges of_vertices of_edges ≡ graph → added ≡ true
    → graph_with horizon (vertices_of grown_names grown_lives) edges of_vertices of_edges ≡ (if added then with_vertex graph name (as_span over) else graph)
grown_vertices horizon names grown_names lives grown_lives edges of_vertices of_edges graph name over added step named lived seen new =
    (λ i. graph_with horizon (vertices_of (named i) (lived i)) edges of_vertices of_edges)
    ∙ ap (λ vertices. graph_with horizon vertices edges of_vertices of_edges) (vertices_of-push names lives name (over ∷ []) step)
    ∙ ap (λ plain. with_vertex plain name (as_span over)) seen
    ∙ sym (ap (λ b. if b then with_vertex graph name (as_span over) else graph) new)

-- one more name, pair of ends and life are one more edge
pub grown_edges : (horizon : ℕ) (names grown_names : List (List ℕ)) (ends grown_ends : List Ends) (lives grown_lives : List (List Interval)) (vertices : List PlainVertex)
    (of_vertices of_edges : List PlainProperty) (graph : PlainGraph) (name : List ℕ) (pair : Ends) (over : Interval) (added : Bool)
    → length ends ≡ length names → length lives ≡ length names
    → grown_names ≡ names ++ name ∷ [] → grown_ends ≡ ends ++ pair ∷ [] → grown_lives ≡ lives ++ (over ∷ []) ∷ []
    → graph_with horizon vertices (edges_of names ends lives) of_vertices of_edges ≡ graph → added ≡ true
    → graph_with horizon vertices (edges_of grown_names grown_ends grown_lives) of_vertices of_edges ≡ (if added then with_edge graph name pair (as_span over) else graph)
grown_edges horizon names grown_names ends grown_ends lives grown_lives vertices of_vertices of_edges graph name pair over added ends_step step named ended lived seen new =
    (λ i. graph_with horizon vertices (edges_of (named i) (ended i) (lived i)) of_vertices of_edges)
    ∙ ap (λ edges. graph_with horizon vertices edges of_vertices of_edges) (edges_of-push names ends lives name pair (over ∷ []) ends_step step)
    ∙ ap (λ plain. with_edge plain name pair (as_span over)) seen
    ∙ sym (ap (λ b. if b then with_edge graph name pair (as_span over) else graph) new)

-- a name is new among the vertices where it is new among their names
pub new_vertex : (names : List (List ℕ)) (lives : List (List Interval)) (vertices : List PlainVertex) (name : List ℕ) (added : Bool)
    → length lives ≡ length names → vertices_of names lives ≡ vertices → added ≡ is_none (position (bytes_eq name) names)
    → added ≡ is_none (position (bytes_eq name) (map (λ vertex. vertex.name) vertices))
new_vertex names lives vertices name added step seen e =
    e ∙ ap (λ ns. is_none (position (bytes_eq name) ns)) (sym (names-vertices_of names lives step) ∙ ap (map (λ vertex. vertex.name)) seen)

pub new_edge : (names : List (List ℕ)) (ends : List Ends) (lives : List (List Interval)) (edges : List PlainEdge) (name : List ℕ) (added : Bool)
    → length ends ≡ length names → length lives ≡ length names → edges_of names ends lives ≡ edges → added ≡ is_none (position (bytes_eq name) names)
    → added ≡ is_none (position (bytes_eq name) (map (λ edge. edge.name) edges))
new_edge names ends lives edges name added ends_step step seen e =
    e ∙ ap (λ ns. is_none (position (bytes_eq name) ns)) (sym (names-edges_of names ends lives ends_step step) ∙ ap (map (λ edge. edge.name)) seen)

-- parts that are equal belong together as well
pub AreVertices-same : (horizon : ℕ) (names other_names : List (List ℕ)) (lives other_lives : List (List Interval))
    → names ≡ other_names → lives ≡ other_lives → AreVertices horizon other_names other_lives → AreVertices horizon names lives
AreVertices-same horizon names other_names lives other_lives named lived parts =
    subst (λ ns. AreVertices horizon ns lives) (sym named) (subst (λ ls. AreVertices horizon other_names ls) (sym lived) parts)

pub AreEdges-same : (horizon count : ℕ) (names other_names : List (List ℕ)) (ends other_ends : List Ends) (lives other_lives : List (List Interval))
    → names ≡ other_names → ends ≡ other_ends → lives ≡ other_lives → AreEdges horizon count other_names other_ends other_lives → AreEdges horizon count names ends lives
AreEdges-same horizon count names other_names ends other_ends lives other_lives named ended lived parts =
    subst (λ ns. AreEdges horizon count ns ends lives) (sym named)
    (subst (λ es. AreEdges horizon count other_names es lives) (sym ended)
    (subst (λ ls. AreEdges horizon count other_names other_ends ls) (sym lived) parts))

-- a graph with no vertices may have any horizon
pub AreVertices-none : (horizon other : ℕ) (names : List (List ℕ)) (lives : List (List Interval)) → AreVertices horizon names lives
    → vertices_of names lives ≡ [] → AreVertices other names lives
AreVertices-none horizon other names lives parts none =
    let no_names : length names ≡ 0 = sym (length-vertices_of names lives parts.in_step) ∙ ap length none in
    record {
      in_limit = parts.in_limit;
      in_step = parts.in_step;
      one_each = parts.one_each;
      are_lives = λ k d within. absurd (omega (arith, no_names, parts.in_step, within));
    }

pub AreEdges-none : (horizon other count : ℕ) (names : List (List ℕ)) (ends : List Ends) (lives : List (List Interval)) → AreEdges horizon count names ends lives
    → edges_of names ends lives ≡ [] → AreEdges other count names ends lives
AreEdges-none horizon other count names ends lives parts none =
    let no_names : length names ≡ 0 = sym (length-edges_of names ends lives parts.ends_in_step parts.in_step) ∙ ap length none in
    record {
      in_limit = parts.in_limit;
      ends_in_step = parts.ends_in_step;
      in_step = parts.in_step;
      one_each = parts.one_each;
      are_lives = λ k d within. absurd (omega (arith, no_names, parts.in_step, within));
      among = parts.among;
    }

-- more vertices or edges leave the owners among them
pub AreOwned-more : (count more : ℕ) (properties : List PlainProperty) → AreOwned count properties → count ≤ more → AreOwned more properties
AreOwned-more count more properties owned le =
    All-weaker (λ property. property.owner < count) (λ property. property.owner < more) (λ property h. omega arith) properties owned

pub AreOwned-push : (count : ℕ) (properties grown : List PlainProperty) (property : PlainProperty) → AreOwned count properties → property.owner < count
    → grown ≡ properties ++ property ∷ [] → AreOwned count grown
AreOwned-push count properties grown property owned here e =
    subst (AreOwned count) (sym e) (All-push (λ p. p.owner < count) properties property owned here)

-- a property that may have been added
pub AreOwned-added : {E : Type 0} (r : Result (Unit {0}) E) (count : ℕ) (properties grown : List PlainProperty) (property : PlainProperty)
    → AreOwned count properties → property.owner < count → OnOk r (grown ≡ properties ++ property ∷ []) → OnErr r (grown ≡ properties) → AreOwned count grown
AreOwned-added (Ok u) count properties grown property owned here ok err = AreOwned-push count properties grown property owned here ok
AreOwned-added (Err e) count properties grown property owned here ok err = subst (AreOwned count) (sym err) owned
