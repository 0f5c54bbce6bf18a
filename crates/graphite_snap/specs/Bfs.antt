-- Breadth-first search as plain functions: the least number of edges from the source to each vertex, which starts with
-- 0 at the source and with nothing elsewhere.
use Rattle.std.specs.Prelude.{◌≡◌, ℕ, ◌+◌, ◌-◌, ◌^◌, ◌==◌, ◌<◌, min, true, false, if◌then◌else◌, List, length, Option, None, Some, is_some, option_map}
use Rattle.std.specs.Option.{option_cmp}
use Rattle.std.specs.Ordering.{nat_cmp}
use Rattle.graphite_text.specs.Graph.{PlainGraph}
use Rattle.graphite_api.specs.declared.next.Next.{Next}
use Rattle.graphite_api.specs.Plan.{Plan}
use Rattle.graphite_api.specs.Snapshot.{Link}
use Rattle.graphite_hops.specs.declared.direction.Direction.TheVariants.{Out}
use Rattle.graphite_hops.specs.Links.{links_at}
use Rattle.graphite_api.specs.Best.{IsLeast}
use Rattle.graphite_snap.specs.Description.{Description, number_alone, zero_at}
use Rattle.graphite_snap.specs.Least.{least}
use Rattle.graphite_snap.specs.Walk.{IsWalk}

-- a vertex that has no number takes the least that it is told, and sends it on; one that has a number keeps it
abbrev pub told : Option ℕ → Option ℕ → Next (Option ℕ)
told (Some distance) heard = record { state = Some distance; send = false }
told None (Some heard) = record { state = Some heard; send = true }
told None None = record { state = None; send = false }

-- in the first superstep a vertex keeps its state, and sends where it has a number
abbrev pub bfs_next : ℕ → Option ℕ → List ℕ → Next (Option ℕ)
bfs_next k state group = if k == 1 then record { state = state; send = is_some state } else told state (least group)

-- one edge more, as far as the numbers go
abbrev pub one_more : ℕ → ℕ
one_more distance = min (distance + 1) (2 ^ 32 - 1)

-- a vertex that has no number tells nothing; an edge's time and cost do not matter
abbrev pub bfs_note : Option ℕ → ℕ → ℕ → Option ℕ
bfs_note state time cost = option_map one_more state

abbrev pub bfs_plan : Plan (Option ℕ) ℕ
bfs_plan = record { next = bfs_next; note = bfs_note; order = nat_cmp; always = false }

-- a search from the vertex with this number
abbrev pub bfs : ℕ → Description (Option ℕ) ℕ
bfs source = record {
  source = Some source;
  ask = number_alone;
  direction = Out;
  start = zero_at source;
  plan = bfs_plan;
  order = option_cmp nat_cmp;
  printed = λ state. state;
}

-- In plain words: the least number of edges of a walk of fewer than so many edges from the source, at the instant. Where the
-- source is not alive no edge leads out of it, since an edge lives within the lives of its ends.
abbrev pub bfs_equation : ℕ → PlainGraph → (steps v t : ℕ) → Option ℕ → Type 0
bfs_equation source graph steps v t value =
    IsLeast (λ n. (walk : List Link) × IsWalk (links_at graph t) source walk v × (length walk ≡ n) × (n < steps)) value
