use Rattle.std.proofs.Common.{◌≡◌, ℕ, All, count_by, sum_by, take, length}
use Rattle.graphite_graph.specs.Departure.{departing, departing_lifespans, HasEdge}
use Rattle.graphite_graph.proofs.DegreeLemmas.{leaves}
use Rattle.graphite_graph.proofs.departure.departures_of.Given as goal

abbrev pub invariant-loop-edge : goal.invariant-loop-edge
invariant-loop-edge l = record {
  counts : (v t : ℕ) → departing l.graph l.departures.items v t ≡ count_by (leaves v t) (take l.edge l.graph.edges);
  in_range : All (HasEdge l.graph) l.departures.items;
  lifespans : departing_lifespans l.graph l.departures.items ≡ sum_by (λ edge. length edge.life) (take l.edge l.graph.edges);
}
