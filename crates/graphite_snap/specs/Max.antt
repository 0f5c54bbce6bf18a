-- The greatest value of a property over the vertices from which a walk leads to a vertex, itself among them.
use Rattle.std.specs.Prelude.{◌≡◌, ℕ, ◌==◌, nat_lt, true, false, if◌then◌else◌, is_some, List, Option, None, Some}
use Rattle.std.specs.Option.{option_cmp}
use Rattle.std.specs.Ordering.{nat_cmp}
use Rattle.graphite_text.specs.Graph.{PlainGraph, vertex_property_at}
use Rattle.graphite_graph.specs.declared.facts.Ask.{Ask}
use Rattle.graphite_api.specs.declared.next.Next.{Next}
use Rattle.graphite_api.specs.Plan.{Plan}
use Rattle.graphite_hops.specs.declared.direction.Direction.TheVariants.{Out}
use Rattle.graphite_hops.specs.Links.{links_at}
use Rattle.graphite_api.specs.Best.{IsGreatest}
use Rattle.graphite_snap.specs.Description.{Description}
use Rattle.graphite_snap.specs.Least.{greatest}
use Rattle.graphite_snap.specs.Walk.{IsReached}

-- a vertex that is told a greater value than its own, or has none, takes it and sends it on
abbrev pub raised : Option ℕ → Option ℕ → Next (Option ℕ)
raised value None = record { state = value; send = false }
raised None (Some told) = record { state = Some told; send = true }
raised (Some value) (Some told) =
    if nat_lt value told then record { state = Some told; send = true } else record { state = Some value; send = false }

-- in the first superstep a vertex keeps its value, and sends it where it has one
abbrev pub max_next : ℕ → Option ℕ → List ℕ → Next (Option ℕ)
max_next k state group = if k == 1 then record { state = state; send = is_some state } else raised state (greatest group)

-- a vertex tells its value; an edge's time and cost do not matter
abbrev pub max_note : Option ℕ → ℕ → ℕ → Option ℕ
max_note state time cost = state

abbrev pub max_plan : Plan (Option ℕ) ℕ
max_plan = record { next = max_next; note = max_note; order = nat_cmp; always = false }

-- the value of the property with a key
abbrev pub property_alone : List ℕ → Ask
property_alone key = record { outdegree = false; n = false; key = Some key }

-- the greatest value of the property with this key
abbrev pub max_of : List ℕ → Description (Option ℕ) ℕ
max_of key = record {
  source = None;
  ask = property_alone key;
  direction = Out;
  start = λ facts. facts.prop;
  plan = max_plan;
  order = option_cmp nat_cmp;
  printed = λ state. state;
}

-- in plain words: the greatest value that the key has at the instant over the vertices from which a walk of fewer than so
-- many edges leads here
abbrev pub max_equation : List ℕ → PlainGraph → (steps v t : ℕ) → Option ℕ → Type 0
max_equation key graph steps v t value =
    IsGreatest (λ x. (u : ℕ) × IsReached (links_at graph t) steps u v × (vertex_property_at graph u key t ≡ Some x)) value
