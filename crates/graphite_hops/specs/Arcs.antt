-- The arcs of a graph's edges.
use Rattle.std.specs.Prelude.{◌≡◌, ℕ, ◌<◌, ◌≤◌, IsTrue, if◌then◌else◌, List, ◌++◌, All, map, length, Option, Some, None}
use Rattle.std.specs.List.{flat_map, range_with_len}
use Rattle.graphite_time.specs.Interval.{holds}
use Rattle.graphite_text.specs.Graph.{PlainGraph, vertex_is_alive, edge_is_alive, travel_time, travel_cost}
use Rattle.graphite_part.specs.declared.piece.Piece.{Piece}
use Rattle.graphite_part.specs.Pieces.{AreRuns}
use Rattle.graphite_warp.specs.Sorted.{sorted}
use Rattle.graphite_api.specs.declared.arc.Arc.{Arc}
use Rattle.graphite_api.specs.ArcOrder.{arc_order}
use Rattle.graphite_hops.specs.declared.direction.Direction.{Direction}
use Rattle.graphite_hops.specs.declared.direction.Direction.TheVariants.{Out, Both}
use Rattle.graphite_graph.specs.declared.ends.Ends.{Ends}
use Rattle.graphite_hops.specs.Links.{ends_of}

-- the time and the cost of an edge at each instant at which it is alive, and nothing at all others
abbrev pub travel_at : PlainGraph → ℕ → ℕ → Option (ℕ × ℕ)
travel_at graph e t =
    if edge_is_alive graph e t then Some (travel_time graph e t, travel_cost graph e t) else None

-- the arc of an edge between these ends over a piece of its time and cost; what is told along it holds at the piece's instants
abbrev pub arc_between : ℕ → Ends → Piece (ℕ × ℕ) → Arc
arc_between e ends piece = record {
  from = ends.from;
  edge = e;
  over = piece.over;
  to = ends.to;
  time = piece.value.0;
  cost = piece.value.1;
  stay = piece.over;
}

-- the same of an edge of the graph
abbrev pub arc_on : PlainGraph → ℕ → Piece (ℕ × ℕ) → Arc
arc_on graph e piece = arc_between e (ends_of graph e) piece

-- The arcs of the first n edges, by a value that each edge has at each instant, or nothing: for each of them, one arc for
-- each maximal run of its values.
pub record AreRunArcs {X : Type 0} (values : ℕ → ℕ → Option X) (arc : ℕ → Piece X → Arc) (n : ℕ) (arcs : List Arc) : Type 0 where
  pub pieces : ℕ → List (Piece X)
  pub runs : (e : ℕ) → e < n → AreRuns (values e) (pieces e)
  pub arcs_are : arcs ≡ flat_map (λ e. map (arc e) (pieces e)) (range_with_len 0 n)

-- the arcs of the first n edges: for each of them, one for each maximal run of its time and cost
abbrev pub AreArcsOf : PlainGraph → ℕ → List Arc → Type 0
AreArcsOf graph n arcs = AreRunArcs (travel_at graph) (arc_on graph) n arcs

-- the arc the other way round
abbrev pub turned_arc : Arc → Arc
turned_arc arc = record arc { from = arc.to; to = arc.from }

-- the arcs for a program that goes this way along the edges; so one from a vertex to itself is there twice for both ways
abbrev pub arcs_in : Direction → List Arc → List Arc
arcs_in Out arcs = arcs
arcs_in Both arcs = arcs ++ map turned_arc arcs

-- the arcs of all edges, in this direction and in the order of a table
pub record AreTableArcs (graph : PlainGraph) (direction : Direction) (arcs : List Arc) : Type 0 where
  pub forward : List Arc
  pub of_edges : AreArcsOf graph (length graph.edges) forward
  pub in_order : arcs ≡ sorted arc_order (arcs_in direction forward)

-- an arc between vertices of the graph, which takes time, and whose ends are alive while it can be taken
pub record IsArcIn (graph : PlainGraph) (arc : Arc) : Type 0 where
  pub from : arc.from < length graph.vertices
  pub to : arc.to < length graph.vertices
  pub time : 1 ≤ arc.time
  pub from_alive : (t : ℕ) → IsTrue (holds arc.over t) → IsTrue (vertex_is_alive graph arc.from t)
  pub to_alive : (t : ℕ) → IsTrue (holds arc.over t) → IsTrue (vertex_is_alive graph arc.to t)

-- the arcs of all edges in this direction, in any order, and each of them one of the graph
pub record AreDirectedArcs (graph : PlainGraph) (direction : Direction) (arcs : List Arc) : Type 0 where
  pub forward : List Arc
  pub of_edges : AreArcsOf graph (length graph.edges) forward
  pub fit : All (IsArcIn graph) forward
  pub directed : arcs ≡ arcs_in direction forward

-- the arcs of one edge were put behind the old ones: one for each maximal run of its values
pub record RunsAdded {X : Type 0} (values : ℕ → Option X) (arc : Piece X → Arc) (old new : List Arc) : Type 0 where
  pub pieces : List (Piece X)
  pub runs : AreRuns values pieces
  pub added : new ≡ old ++ map arc pieces

-- the arcs of one edge, by its time and cost
abbrev pub EdgeAdded : PlainGraph → ℕ → List Arc → List Arc → Type 0
EdgeAdded graph e old new = RunsAdded (travel_at graph e) (arc_on graph e) old new
