-- The arcs of a table by the vertices that they lead into.
use Rattle.std.specs.Prelude.{◌≡◌, ◌≢◌, ◌⊎◌, ℕ, ◌<◌, ◌≤◌, ◌==◌, List, length, filter, get_or}
use Rattle.std.specs.List.Sorted.{IsPermutation}
use Rattle.graphite_time.specs.Interval.{start_of}
use Rattle.graphite_api.specs.declared.arc.Arc.{Arc}
use Rattle.graphite_api.specs.declared.kind.Kind.{Kind}
use Rattle.graphite_api.specs.declared.kind.Kind.TheVariants.{Latest}
use Rattle.graphite_api.specs.Table.{Table}

-- so many vertices, and arcs between them
pub record Incoming : Type 0 where
  pub vertices : ℕ
  pub arcs : List Arc

-- the arcs that lead into a vertex
abbrev pub arcs_into : List Arc → ℕ → List Arc
arcs_into arcs v = filter (λ arc. arc.to == v) arcs

-- the arc is of a lesser edge than the other, or of the same edge and begins no later
abbrev pub ComesFirst : Arc → Arc → Type 0
ComesFirst arc other = (arc.edge < other.edge) ⊎ ((arc.edge ≡ other.edge) × (start_of arc.over ≤ start_of other.over))

-- arcs by edge, and then by the start of the interval
abbrev pub AreByEdge : List Arc → Type 0
AreByEdge arcs = (i j : ℕ) (d : Arc) → i < j → j < length arcs → ComesFirst (get_or arcs i d) (get_or arcs j d)

-- what is kept of a table for the written journeys of a kind: all its arcs, but for the latest departure, which is told by
-- the arcs out of each vertex, none
pub record IsIncomingOf (table : Table) (kind : Kind) (incoming : Incoming) : Type 0 where
  pub vertices : incoming.vertices ≡ length table.lives
  pub arcs : kind ≢ Latest → IsPermutation table.arcs incoming.arcs
  pub none : kind ≡ Latest → length incoming.arcs ≡ 0
