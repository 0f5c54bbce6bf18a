use Rattle.std.proofs.Common.{◌≡◌, ◌+◌, ◌<◌, ◌≤◌, ℕ, All, length, vec_len}
use Rattle.graphite_part.specs.Counts.{covers_at}
use Rattle.graphite_graph.specs.Departure.{departing, departing_lifespans, GoFrom, HasEdge}
use Rattle.graphite_graph.proofs.departure.take_covers.Given as goal

abbrev pub invariant-loop-departure : goal.invariant-loop-departure
invariant-loop-departure l = record {
  ordered : GoFrom l.v l.rest;
  in_range : All (HasEdge l.graph) l.rest;
  few : vec_len l.covers + departing_lifespans l.graph l.rest ≤ 2097152;
  covers : (t : ℕ) → covers_at l.covers.items t + departing l.graph l.rest l.v t ≡ departing l.graph l.fn.departures l.v t;
  others : (w t : ℕ) → l.v < w → departing l.graph l.rest w t ≡ departing l.graph l.fn.departures w t;
}

abbrev pub decreases-loop-departure : goal.decreases-loop-departure
decreases-loop-departure l = length l.rest
