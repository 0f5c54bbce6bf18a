-- The graph at one instant.
use Rattle.std.specs.Prelude.{ℕ, if◌then◌else◌, List, ◌++◌, map, filter, Option, None}
use Rattle.graphite_time.specs.declared.interval.Interval.{Interval}
use Rattle.graphite_time.specs.Interval.{holds}
use Rattle.graphite_api.specs.declared.arc.Arc.{Arc}
use Rattle.graphite_api.specs.Table.{vertex_is_alive}

-- an edge between two vertices at one instant, with the time and the cost that it has then
pub record Link : Type 0 where
  pub from : ℕ
  pub to : ℕ
  pub time : ℕ
  pub cost : ℕ

-- The graph at one instant: the state that each vertex starts with which is alive then, and nothing
-- for the others; and the links.
pub record Snapshot (S : Type 0) : Type 0 where
  pub start : ℕ → Option S
  pub links : List Link

abbrev pub link_of : Arc → Link
link_of arc = record { from = arc.from; to = arc.to; time = arc.time; cost = arc.cost }

-- the arcs that hold the instant
abbrev pub arcs_at : List Arc → ℕ → List Arc
arcs_at arcs t = filter (λ arc. holds arc.over t) arcs

-- the state that the vertex starts with at the instant, where it is alive
abbrev pub start_at : {S : Type 0} → List (List Interval) → (ℕ → ℕ → Option S) → ℕ → ℕ → Option S
start_at lives start t v = if vertex_is_alive lives v t then start v t else None

-- Of a table: the vertices that are alive at the instant, each with the state that it starts with
-- then, and the arcs that hold the instant.
abbrev pub snapshot_at : {S : Type 0} → List (List Interval) → List Arc → (ℕ → ℕ → Option S) → ℕ → Snapshot S
snapshot_at lives arcs start t = record {
  start = start_at lives start t;
  links = map link_of (arcs_at arcs t);
}

-- the link the other way round
abbrev pub turned : Link → Link
turned link = record link { from = link.to; to = link.from }

-- Links for a program whose edges lead both ways: each link, and each the other way round. So a link
-- from a vertex to itself is there twice.
abbrev pub both_ways : List Link → List Link
both_ways links = links ++ map turned links
