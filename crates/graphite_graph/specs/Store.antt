-- How the parts that are kept of a graph make the plain graph, and what they owe each other.
use Rattle.std.specs.Prelude.{◌≡◌, ℕ, ◌<◌, ◌≤◌, List, [], ◌∷◌, length, map, sum_by, All}
use Rattle.graphite_time.specs.declared.interval.Interval.{Interval}
use Rattle.graphite_time.specs.Life.{IsLife}
use Rattle.graphite_text.specs.declared.limits.TheConstants.{VERTEX_LIMIT, EDGE_LIMIT}
use Rattle.graphite_text.specs.Graph.{PlainVertex, PlainEdge, PlainProperty, PlainGraph}
use Rattle.graphite_graph.specs.declared.ends.Ends.{Ends}
use Rattle.graphite_text.specs.Spans.{as_span}
use Rattle.graphite_graph.specs.Life.{EndsBy}

-- the vertices with these names and lives
abbrev pub vertices_of : List (List ℕ) → List (List Interval) → List PlainVertex
vertices_of [] lives = []
vertices_of (name ∷ names) [] = []
vertices_of (name ∷ names) (life ∷ lives) = record { name = name; life = map as_span life } ∷ vertices_of names lives

-- the edges with these names, ends and lives
abbrev pub edges_of : List (List ℕ) → List Ends → List (List Interval) → List PlainEdge
edges_of [] ends lives = []
edges_of (name ∷ names) [] lives = []
edges_of (name ∷ names) (pair ∷ ends) [] = []
edges_of (name ∷ names) (pair ∷ ends) (life ∷ lives) =
    record { name = name; from = pair.from; to = pair.to; life = map as_span life } ∷ edges_of names ends lives

-- the graph with these properties in place of its own
abbrev pub with_properties : PlainGraph → List PlainProperty → List PlainProperty → PlainGraph
with_properties graph vertex_properties edge_properties =
    record graph { vertex_properties = vertex_properties; edge_properties = edge_properties }

-- both ends are numbers of vertices
abbrev pub AreAmong : ℕ → Ends → Type 0
AreAmong count ends = (ends.from < count) × (ends.to < count)

-- a life whose lifespans end at most at the horizon
abbrev pub IsLifeBy : ℕ → List Interval → Type 0
IsLifeBy horizon life = IsLife life × EndsBy horizon life

-- the parts of the vertices belong together
pub record AreVertices (horizon : ℕ) (names : List (List ℕ)) (lives : List (List Interval)) : Type 0 where
  pub in_limit : length names ≤ VERTEX_LIMIT
  pub in_step : length lives ≡ length names
  pub one_each : sum_by length lives ≡ length names
  pub are_lives : All (IsLifeBy horizon) lives

-- the parts of the edges belong together
pub record AreEdges (horizon count : ℕ) (names : List (List ℕ)) (ends : List Ends) (lives : List (List Interval)) : Type 0 where
  pub in_limit : length names ≤ EDGE_LIMIT
  pub ends_in_step : length ends ≡ length names
  pub in_step : length lives ≡ length names
  pub one_each : sum_by length lives ≡ length names
  pub are_lives : All (IsLifeBy horizon) lives
  pub among : All (AreAmong count) ends

-- each owner is one of so many vertices or edges
abbrev pub AreOwned : ℕ → List PlainProperty → Type 0
AreOwned count properties = All (λ property. property.owner < count) properties
