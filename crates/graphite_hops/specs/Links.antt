-- The links of a graph at one instant.
use Rattle.std.specs.Prelude.{ℕ, List, map, filter, length, unwrap_or}
use Rattle.std.specs.List.{range_with_len}
use Rattle.graphite_text.specs.Graph.{PlainGraph, edge_is_alive, travel_time, travel_cost}
use Rattle.graphite_graph.specs.declared.ends.Ends.{Ends}
use Rattle.graphite_graph.specs.Ends.{edge_ends}
use Rattle.graphite_api.specs.Snapshot.{Link, both_ways}
use Rattle.graphite_hops.specs.declared.direction.Direction.{Direction}
use Rattle.graphite_hops.specs.declared.direction.Direction.TheVariants.{Out, Both}

-- the vertices that an edge leads from and to
abbrev pub ends_of : PlainGraph → ℕ → Ends
ends_of graph e = unwrap_or (edge_ends graph e) (record { from = 0; to = 0 })

-- the numbers of the edges that are alive at the instant
abbrev pub edges_alive : PlainGraph → ℕ → List ℕ
edges_alive graph t = filter (λ e. edge_is_alive graph e t) (range_with_len 0 (length graph.edges))

-- an edge as a link, with its time and its cost at the instant
abbrev pub link_at : PlainGraph → ℕ → ℕ → Link
link_at graph t e = record {
  from = (ends_of graph e).from;
  to = (ends_of graph e).to;
  time = travel_time graph e t;
  cost = travel_cost graph e t;
}

-- the links at the instant: one for each edge that is alive then
abbrev pub links_at : PlainGraph → ℕ → List Link
links_at graph t = map (link_at graph t) (edges_alive graph t)

-- the links that a program sees which goes this way along the edges
abbrev pub links_in : Direction → List Link → List Link
links_in Out links = links
links_in Both links = both_ways links
