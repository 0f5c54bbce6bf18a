-- The hops of a graph over time, and the arcs of a table that has them.
use Rattle.std.specs.Prelude.{◌≡◌, ℕ, Bool, ◌+◌, ◌==◌, ◌&&◌, nat_lt, IsTrue, if◌then◌else◌, List, length, Option, None, option_map}
use Rattle.graphite_time.specs.declared.interval.Interval.{Interval}
use Rattle.graphite_time.specs.Interval.{holds}
use Rattle.graphite_time.specs.Life.{lifespan_at}
use Rattle.graphite_text.specs.Graph.{PlainGraph, vertex_is_alive, edge_is_alive, travel_time, travel_cost}
use Rattle.graphite_part.specs.declared.piece.Piece.{Piece}
use Rattle.graphite_warp.specs.Sorted.{sorted}
use Rattle.graphite_api.specs.declared.arc.Arc.{Arc}
use Rattle.graphite_api.specs.ArcOrder.{arc_order}
use Rattle.graphite_api.specs.Hop.{Hop}
use Rattle.graphite_api.specs.Table.{life_of}
use Rattle.graphite_graph.specs.declared.ends.Ends.{Ends}
use Rattle.graphite_hops.specs.Arcs.{AreRunArcs}
use Rattle.graphite_hops.specs.Links.{ends_of}

-- The edge can be entered at the instant: it is alive then, and its target is alive at the arrival, which is below the
-- horizon.
abbrev pub is_hop : PlainGraph → (e depart : ℕ) → Bool
is_hop graph e depart =
    edge_is_alive graph e depart
    && nat_lt (depart + travel_time graph e depart) graph.horizon
    && vertex_is_alive graph (ends_of graph e).to (depart + travel_time graph e depart)

-- the edge as a hop that departs at the instant, with its time and its cost then
abbrev pub hop_at : PlainGraph → (e depart : ℕ) → Hop
hop_at graph e depart = record {
  edge = e;
  from = (ends_of graph e).from;
  to = (ends_of graph e).to;
  depart = depart;
  time = travel_time graph e depart;
  cost = travel_cost graph e depart;
}

-- the hop is one of the graph
pub record IsHopOf (graph : PlainGraph) (hop : Hop) : Type 0 where
  pub can : IsTrue (is_hop graph hop.edge hop.depart)
  pub is : hop ≡ hop_at graph hop.edge hop.depart

-- What is the same along an arc: the time and the cost of the edge's hop at each instant, and which of the target's
-- lifespans holds its arrival; nothing where there is no hop.
abbrev pub hop_values : PlainGraph → List (List Interval) → (e depart : ℕ) → Option ((ℕ × ℕ) × Interval)
hop_values graph lives e depart =
    if is_hop graph e depart
    then option_map (λ stay. ((travel_time graph e depart, travel_cost graph e depart), stay)) (lifespan_at (life_of lives (ends_of graph e).to) (depart + travel_time graph e depart))
    else None

-- the arc of an edge between these ends over a piece of those values
abbrev pub hop_arc_between : ℕ → Ends → Piece ((ℕ × ℕ) × Interval) → Arc
hop_arc_between e ends piece = record {
  from = ends.from;
  edge = e;
  over = piece.over;
  to = ends.to;
  time = piece.value.0.0;
  cost = piece.value.0.1;
  stay = piece.value.1;
}

-- the same of an edge of the graph
abbrev pub hop_arc_on : PlainGraph → ℕ → Piece ((ℕ × ℕ) × Interval) → Arc
hop_arc_on graph e piece = hop_arc_between e (ends_of graph e) piece

-- the arcs of the first n edges: for each of them, one for each maximal run of the values of its hops
abbrev pub AreHopArcsOf : PlainGraph → List (List Interval) → ℕ → List Arc → Type 0
AreHopArcsOf graph lives n arcs = AreRunArcs (hop_values graph lives) (hop_arc_on graph) n arcs

-- the arcs of all edges, in the order of a table
pub record AreHopArcs (graph : PlainGraph) (lives : List (List Interval)) (arcs : List Arc) : Type 0 where
  pub forward : List Arc
  pub of_edges : AreHopArcsOf graph lives (length graph.edges) forward
  pub in_order : arcs ≡ sorted arc_order forward

-- the arc is one of this edge that can be taken at the instant
abbrev pub is_arc_at : (e t : ℕ) → Arc → Bool
is_arc_at e t arc = (arc.edge == e) && holds arc.over t
