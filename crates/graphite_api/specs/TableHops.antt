-- The hops of a table of lives and arcs.
use Rattle.std.specs.Prelude.{◌≡◌, ℕ, ◌+◌, ◌≤◌, IsTrue, List, length, Some}
use Rattle.std.specs.List.{Contains, sum_by}
use Rattle.graphite_time.specs.declared.interval.Interval.{Interval}
use Rattle.graphite_time.specs.Interval.{start_of, end_of, holds}
use Rattle.graphite_time.specs.Life.{lifespan_at}
use Rattle.graphite_api.specs.declared.arc.Arc.{Arc}
use Rattle.graphite_api.specs.Hop.{Hop}
use Rattle.graphite_api.specs.Table.{life_of}

-- the hop along an arc that departs at an instant
abbrev pub hop_along : Arc → ℕ → Hop
hop_along arc depart = record { edge = arc.edge; from = arc.from; to = arc.to; depart = depart; time = arc.time; cost = arc.cost }

-- the hop is along one of the arcs, at an instant at which that can be taken
pub record IsHopOn (arcs : List Arc) (hop : Hop) : Type 0 where
  pub arc : Arc
  pub among : Contains arcs arc
  pub held : IsTrue (holds arc.over hop.depart)
  pub is : hop ≡ hop_along arc hop.depart

-- every arrival of the arc lies in one lifespan of its target, and the arc names that
pub record StaysAt (lives : List (List Interval)) (arc : Arc) : Type 0 where
  pub lifespan : lifespan_at (life_of lives arc.to) (start_of arc.over + arc.time) ≡ Some arc.stay
  pub last : end_of arc.over + arc.time ≤ end_of arc.stay

-- the number of the lifespans of all vertices
abbrev pub lifespans : List (List Interval) → ℕ
lifespans lives = sum_by (λ life. length life) lives
