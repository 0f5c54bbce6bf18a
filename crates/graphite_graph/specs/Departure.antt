-- The edges of a graph as departures: the vertex that an edge leaves, and the edge's number.
use Rattle.std.specs.Prelude.{ℕ, ◌≤◌, ◌<◌, ◌&&◌, ◌==◌, List, [], ◌∷◌, length, count_by, sum_by}
use Rattle.std.specs.List.{All}
use Rattle.graphite_text.specs.Graph.{PlainGraph, edge_life, edge_is_alive}
use Rattle.graphite_graph.specs.declared.departure.Departure.{Departure}
use Rattle.graphite_text.specs.declared.limits.TheConstants.{EDGE_LIMIT}

-- how many departures from the vertex have an edge that is alive at the instant
abbrev pub departing : PlainGraph → List Departure → ℕ → ℕ → ℕ
departing graph departures v t = count_by (λ departure. (departure.from == v) && edge_is_alive graph departure.edge t) departures

-- how many lifespans the edges of the departures have together
abbrev pub departing_lifespans : PlainGraph → List Departure → ℕ
departing_lifespans graph departures = sum_by (λ departure. length (edge_life graph departure.edge)) departures

-- the departures go by their vertices, from v on
abbrev pub GoFrom : ℕ → List Departure → Type 0
GoFrom v [] = Unit {0}
GoFrom v (departure ∷ departures) = (v ≤ departure.from) × GoFrom departure.from departures

-- the departure's edge is one of the graph's
abbrev pub HasEdge : PlainGraph → Departure → Type 0
HasEdge graph departure = departure.edge < length graph.edges

-- departures of edges of the graph, which together have no more lifespans than a graph's edges may
pub record HaveEdges (graph : PlainGraph) (departures : List Departure) : Type 0 where
  pub in_range : All (HasEdge graph) departures
  pub few : departing_lifespans graph departures ≤ EDGE_LIMIT
