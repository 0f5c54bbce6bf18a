-- Hops, journeys and queries in the mirror of time: every hop leads the other way, and a latest departure is an
-- earliest arrival there.
use Rattle.std.specs.Prelude.{◌≡◌, ℕ, Bool, ◌-◌, ◌<◌, IsTrue, List, map, reverse}
use Rattle.graphite_time.specs.Mirror.{mirrored}
use Rattle.graphite_api.specs.declared.kind.Kind.TheVariants.{Earliest}
use Rattle.graphite_api.specs.declared.path_query.PathQuery.{PathQuery}
use Rattle.graphite_api.specs.Hop.{Hop, arrival}

-- the hop in the mirror: from where and when it arrives to where and when it departs
abbrev pub mirrored_hop : ℕ → Hop → Hop
mirrored_hop h hop = record hop { from = hop.to; to = hop.from; depart = mirrored h (arrival hop) }

-- the hops of a journey in the mirror, its first hop first
abbrev pub mirrored_hops : ℕ → List Hop → List Hop
mirrored_hops h hops = reverse (map (mirrored_hop h) hops)

-- The query of the earliest arrival in the mirror: the window from the mirror of its last instant to that of its first.
abbrev pub mirrored_query : ℕ → PathQuery → PathQuery
mirrored_query h query = record { kind = Earliest; vertex = query.vertex; from = h - query.until; until = h - query.from }

-- Lives and hops below h, and their mirror.
pub record AreMirrored (h : ℕ) (alive alive' : ℕ → ℕ → Bool) (IsHop IsHop' : Hop → Type 0) : Type 0 where
  pub below : (v t : ℕ) → IsTrue (alive v t) → t < h
  pub below' : (v t : ℕ) → IsTrue (alive' v t) → t < h
  pub lives : (v t : ℕ) → t < h → alive' v t ≡ alive v (mirrored h t)
  pub arrives : (hop : Hop) → IsHop hop → arrival hop < h
  pub arrives' : (hop : Hop) → IsHop' hop → arrival hop < h
  pub hops : (hop : Hop) → IsHop hop → IsHop' (mirrored_hop h hop)
  pub hops' : (hop : Hop) → IsHop' hop → IsHop (mirrored_hop h hop)
