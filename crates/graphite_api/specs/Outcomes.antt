-- For private functions alone: the outcomes and the groups of vertices as lists of one entry a vertex.
use Rattle.std.specs.Prelude.{ℕ, ◌<◌, ◌≤◌, List, Option, slice_get, slice_index_or, []}
use Rattle.std.specs.Option.{option_flatten}
use Rattle.graphite_time.specs.declared.interval.Interval.{Interval}
use Rattle.graphite_time.specs.Interval.{start_of, end_of}
use Rattle.graphite_api.specs.declared.arc.Arc.{Arc}

-- the entry of a vertex; nothing where there is no such vertex
abbrev pub entry_of : {X : Type 0} → List (Option X) → ℕ → Option X
entry_of entries v = option_flatten (slice_get entries v)

-- the list of a vertex; empty where there is no such vertex
abbrev pub list_of : {X : Type 0} → List (List X) → ℕ → List X
list_of lists v = slice_index_or lists v []

-- the arc can be taken over the interval, and leads to one of n vertices
pub record IsTaken (now : Interval) (n : ℕ) (arc : Arc) : Type 0 where
  pub starts : start_of arc.over ≤ start_of now
  pub ends : end_of now ≤ end_of arc.over
  pub to : arc.to < n
