-- The least number of a vertex that edges lead to, taken either way: vertices with the same number are connected.
use Rattle.std.specs.Prelude.{ℕ, ◌==◌, nat_lt, true, false, if◌then◌else◌, List, Option, None, Some}
use Rattle.std.specs.Ordering.{nat_cmp}
use Rattle.graphite_text.specs.Graph.{PlainGraph}
use Rattle.graphite_api.specs.declared.next.Next.{Next}
use Rattle.graphite_api.specs.Plan.{Plan}
use Rattle.graphite_hops.specs.declared.direction.Direction.TheVariants.{Both}
use Rattle.graphite_hops.specs.Links.{links_at, links_in}
use Rattle.graphite_api.specs.Best.{IsLeast}
use Rattle.graphite_snap.specs.Description.{Description, number_alone}
use Rattle.graphite_snap.specs.Least.{least}
use Rattle.graphite_snap.specs.Walk.{IsReached}

-- a vertex that is told a lower number than its own takes it, and sends it on
abbrev pub lowered : ℕ → Option ℕ → Next ℕ
lowered number None = record { state = number; send = false }
lowered number (Some told) =
    if nat_lt told number then record { state = told; send = true } else record { state = number; send = false }

-- in the first superstep a vertex sends its own number
abbrev pub components_next : ℕ → ℕ → List ℕ → Next ℕ
components_next k state group = if k == 1 then record { state = state; send = true } else lowered state (least group)

-- a vertex tells its number; an edge's time and cost do not matter
abbrev pub components_note : ℕ → ℕ → ℕ → Option ℕ
components_note state time cost = Some state

abbrev pub components_plan : Plan ℕ ℕ
components_plan = record { next = components_next; note = components_note; order = nat_cmp; always = false }

abbrev pub components : Description ℕ ℕ
components = record {
  source = None;
  ask = number_alone;
  direction = Both;
  start = λ facts. facts.vertex;
  plan = components_plan;
  order = nat_cmp;
  printed = λ state. Some state;
}

-- in plain words: the least number of a vertex from which a walk of fewer than so many edges leads here at the instant, the
-- edges taken in either direction
abbrev pub components_equation : PlainGraph → (steps v t : ℕ) → Option ℕ → Type 0
components_equation graph steps v t value = IsLeast (λ u. IsReached (links_in Both (links_at graph t)) steps u v) value
