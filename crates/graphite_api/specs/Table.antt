-- Lives and arcs: what a table of arcs holds.
use Rattle.std.specs.Prelude.{◌≡◌, ℕ, Bool, ◌==◌, ◌+◌, ◌^◌, ◌<◌, ◌≤◌, IsTrue, List, [], All, length, filter, slice_index, slice_index_or}
use Rattle.std.specs.List.{AllWithin}
use Rattle.graphite_time.specs.declared.interval.Interval.{Interval}
use Rattle.graphite_time.specs.Interval.{holds}
use Rattle.graphite_time.specs.Life.{is_held, IsLife}
use Rattle.graphite_warp.specs.Sorted.{sorted}
use Rattle.graphite_api.specs.declared.arc.Arc.{Arc}
use Rattle.graphite_api.specs.ArcOrder.{arc_order}

-- the lifespans of each vertex, and the arcs between them
pub record Table : Type 0 where
  pub lives : List (List Interval)
  pub arcs : List Arc

-- the lifespans of a vertex; none where there is no such vertex
abbrev pub life_of : List (List Interval) → ℕ → List Interval
life_of lives v = slice_index_or lives v []

-- whether the vertex is alive at the instant
abbrev pub vertex_is_alive : List (List Interval) → ℕ → ℕ → Bool
vertex_is_alive lives v t = is_held (life_of lives v) t

-- an arc between vertices with these lives: it takes time, and its source is alive while it can be taken
pub record IsArcOn (lives : List (List Interval)) (arc : Arc) : Type 0 where
  pub from : arc.from < length lives
  pub to : arc.to < length lives
  pub time : 1 ≤ arc.time
  pub alive : (t : ℕ) → IsTrue (holds arc.over t) → IsTrue (vertex_is_alive lives arc.from t)

-- what a table keeps: the lives are lives, and the arcs are between its vertices, have costs of 32 bits, and are in order
pub record IsTable (lives : List (List Interval)) (arcs : List Arc) : Type 0 where
  pub few : length lives < 2 ^ 32
  pub lives_are : All IsLife lives
  pub arcs_on : All (IsArcOn lives) arcs
  pub costs : All (λ arc. arc.cost < 2 ^ 32) arcs
  pub in_order : sorted arc_order arcs ≡ arcs

-- the arcs that lead out of a vertex
abbrev pub arcs_out : List Arc → ℕ → List Arc
arcs_out arcs v = filter (λ arc. arc.from == v) arcs

-- the arcs with sources below v are the first ones, as many as this
pub record IsStart (arcs : List Arc) (v start : ℕ) : Type 0 where
  pub within : start ≤ length arcs
  pub before : AllWithin (λ arc. arc.from < v) arcs 0 start
  pub after : AllWithin (λ arc. v ≤ arc.from) arcs start (length arcs)

-- where the arcs out of each of n vertices start, and where those of the last one end
pub record AreStarts (arcs : List Arc) (n : ℕ) (starts : List ℕ) : Type 0 where
  pub len : length starts ≡ n + 1
  pub start : (v : ℕ) → v ≤ n → IsStart arcs v (slice_index starts v)
