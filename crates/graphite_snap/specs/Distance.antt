-- The least cost of a walk from the source to each vertex, which starts with 0 at the source and with nothing elsewhere.
use Rattle.std.specs.Prelude.{◌≡◌, ◌<◌, length, sum_by, ℕ, ◌+◌, ◌-◌, ◌^◌, ◌==◌, nat_lt, min, true, false, if◌then◌else◌, is_some, option_map, List, Option, None, Some}
use Rattle.std.specs.Option.{option_cmp}
use Rattle.std.specs.Ordering.{nat_cmp}
use Rattle.graphite_text.specs.Graph.{PlainGraph}
use Rattle.graphite_api.specs.declared.next.Next.{Next}
use Rattle.graphite_api.specs.Plan.{Plan}
use Rattle.graphite_api.specs.Snapshot.{Link}
use Rattle.graphite_hops.specs.declared.direction.Direction.TheVariants.{Out}
use Rattle.graphite_hops.specs.Links.{links_at}
use Rattle.graphite_api.specs.Best.{IsLeast}
use Rattle.graphite_snap.specs.Description.{Description, number_alone, zero_at}
use Rattle.graphite_snap.specs.Least.{least}
use Rattle.graphite_snap.specs.Walk.{IsWalk}

-- a vertex that is told a lower cost than its own, or has none, takes it and sends it on
abbrev pub cheapened : Option ℕ → Option ℕ → Next (Option ℕ)
cheapened sum None = record { state = sum; send = false }
cheapened None (Some told) = record { state = Some told; send = true }
cheapened (Some sum) (Some told) =
    if nat_lt told sum then record { state = Some told; send = true } else record { state = Some sum; send = false }

-- in the first superstep a vertex keeps its cost, and sends it where it has one
abbrev pub distance_next : ℕ → Option ℕ → List ℕ → Next (Option ℕ)
distance_next k state group = if k == 1 then record { state = state; send = is_some state } else cheapened state (least group)

-- a vertex tells its cost and the edge's, as far as the numbers go
abbrev pub distance_note : Option ℕ → ℕ → ℕ → Option ℕ
distance_note state time cost = option_map (λ sum. min (sum + cost) (2 ^ 64 - 1)) state

abbrev pub distance_plan : Plan (Option ℕ) ℕ
distance_plan = record { next = distance_next; note = distance_note; order = nat_cmp; always = false }

-- the costs from the vertex with this number
abbrev pub distance : ℕ → Description (Option ℕ) ℕ
distance source = record {
  source = Some source;
  ask = number_alone;
  direction = Out;
  start = zero_at source;
  plan = distance_plan;
  order = option_cmp nat_cmp;
  printed = λ state. state;
}

-- In plain words: the least sum of the costs of a walk of fewer than so many edges from the source, at the instant. Where the
-- source is not alive no edge leads out of it, since an edge lives within the lives of its ends.
abbrev pub distance_equation : ℕ → PlainGraph → (steps v t : ℕ) → Option ℕ → Type 0
distance_equation source graph steps v t value =
    IsLeast (λ sum. (walk : List Link) × IsWalk (links_at graph t) source walk v × (length walk < steps) × (sum_by (λ link. link.cost) walk ≡ sum)) value
