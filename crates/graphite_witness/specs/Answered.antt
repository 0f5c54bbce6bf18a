-- A question about journeys on a table of arcs, and its answer for all vertices and instants.
use Rattle.std.specs.Prelude.{◌≡◌, ◌↔◌, ℕ, ◌<◌, IsTrue, IsSome, List, [], All, length, slice_index_or, Option}
use Rattle.std.specs.Option.{option_flatten}
use Rattle.graphite_time.specs.declared.interval.Interval.{Interval}
use Rattle.graphite_part.specs.declared.piece.Piece.{Piece}
use Rattle.graphite_part.specs.Pieces.{value_at}
use Rattle.graphite_api.specs.declared.arc.Arc.{Arc}
use Rattle.graphite_api.specs.declared.path_query.PathQuery.{PathQuery}
use Rattle.graphite_api.specs.Hop.{Hop}
use Rattle.graphite_api.specs.Journey.{IsBestOverAll}
use Rattle.graphite_api.specs.Table.{vertex_is_alive}
use Rattle.graphite_api.specs.TableHops.{IsHopOn, StaysAt}

-- the value of a vertex at an instant: none where it has none, and none where it is not alive
abbrev pub value_for : List (List (Piece (Option ℕ))) → ℕ → ℕ → Option ℕ
value_for values v t = option_flatten (value_at (slice_index_or values v []) t)

-- an edge is entered at an instant by one hop at most
abbrev pub AreOnce : (Hop → Type 0) → Type 0
AreOnce IsHop = (hop other : Hop) → IsHop hop → IsHop other → hop.edge ≡ other.edge → hop.depart ≡ other.depart → hop ≡ other

-- The values are the best over all journeys on the table, for each of its vertices exactly over its life. Each arc names
-- the lifespan of its target that all its arrivals are in, and no edge is entered twice at an instant.
pub record IsAnswered (lives : List (List Interval)) (arcs : List Arc) (query : PathQuery) (values : List (List (Piece (Option ℕ)))) : Type 0 where
  pub stays : All (StaysAt lives) arcs
  pub once : AreOnce (IsHopOn arcs)
  pub len : length values ≡ length lives
  pub on_lives : (v t : ℕ) → v < length lives → IsSome (value_at (slice_index_or values v []) t) ↔ IsTrue (vertex_is_alive lives v t)
  pub best : (v t : ℕ) → IsBestOverAll (vertex_is_alive lives) (IsHopOn arcs) query v t (value_for values v t)
